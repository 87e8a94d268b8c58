-- The classes of keys whose processes are equal.
use Rattle.std.proofs.Common.{◌≡◌, ◌∙◌, ◌==◌, ℕ, Bool, true, false, Option, Some, cond, eqb-true, refl, sym, ap, if◌then◌else◌}
use Rattle.std.specs.Prelude.{unwrap_or}
use Rattle.jaeger_model.specs.declared.batch.Process.{Process}
use Rattle.jaeger_model.specs.Sameness.{same_process}
use Rattle.jaeger_model.specs.SameLaws.{same_process-decides}

same_value : (a b : ℕ) → Some a ≡ Some b → a ≡ b
same_value a b e = ap (λ (o : Option ℕ). unwrap_or o a) e

-- once the process p has a class, whatever class a process has leads to that process
module _ (process_of : ℕ → Option Process) (p : Process) (own : ℕ) (leads : process_of own ≡ Some p) where
  pub process_put : (q : Process) (old : Option ℕ) (class : ℕ) → (old ≡ Some class → process_of class ≡ Some q)
      → cond (same_process p q) (Some own) old ≡ Some class → process_of class ≡ Some q
  process_put q old class before e = by (same_process p q) refl e
    where
      by : (t : Bool) → same_process p q ≡ t → cond t (Some own) old ≡ Some class → process_of class ≡ Some q
      by true same e = ap process_of (sym (same_value own class e)) ∙ leads ∙ ap (λ (r : Process). Some r) ((same_process-decides p q).0 same)
      by false other e = before e

-- once a key has a class, whatever class a key has leads to its process
module _ (process_of : ℕ → Option Process) (key own : ℕ) (leads : process_of own ≡ process_of key) where
  pub key_put : (n : ℕ) (old : Option ℕ) (class : ℕ) → (old ≡ Some class → process_of class ≡ process_of n)
      → (if key == n then Some own else old) ≡ Some class → process_of class ≡ process_of n
  key_put n old class before e = by (key == n) refl e
    where
      by : (t : Bool) → (key == n) ≡ t → (if t then Some own else old) ≡ Some class → process_of class ≡ process_of n
      by true same e = ap process_of (sym (same_value own class e)) ∙ leads ∙ ap process_of (eqb-true key n same)
      by false other e = before e
