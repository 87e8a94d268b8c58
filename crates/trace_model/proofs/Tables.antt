-- A table with one more entry: t says that its key is the one that is looked up.
use Rattle.std.proofs.Common.{◌≡◌, Bool, true, false, cond, refl, sym, ap, ◌∙◌}
use Rattle.std.specs.Prelude.{Option, Some, None, is_some, option_map}
use Rattle.std.specs.Option.{option_or}
use Rattle.std.proofs.lemmas.Bool.{false≢true}

or_none : {V : Type 0} (o : Option V) → option_or o None ≡ o
or_none None = refl
or_none (Some v) = refl

or_absent : {V : Type 0} (o p : Option V) → is_some o ≡ false → p ≡ option_or o p
or_absent None p e = refl
or_absent (Some v) p e = absurd (false≢true (sym e))

or_present : {V : Type 0} (o p : Option V) → is_some o ≡ true → o ≡ option_or o p
or_present None p e = absurd (false≢true e)
or_present (Some v) p e = refl

-- if the table did not have the key
pub entered : {K V : Type 0} (g : K → Option V) (key q : K) (v : V) (t : Bool) → (t ≡ true → key ≡ q) → is_some (g key) ≡ false
    → cond t (Some v) (g q) ≡ option_or (g q) (cond t (Some v) None)
entered g key q v true same none = or_absent (g q) (Some v) (ap (λ k. is_some (g k)) (sym (same refl)) ∙ none)
entered g key q v false same none = sym (or_none (g q))

-- if the table has the key
pub kept : {K V : Type 0} (g : K → Option V) (key q : K) (v : V) (t : Bool) → (t ≡ true → key ≡ q) → is_some (g key) ≡ true
    → g q ≡ option_or (g q) (cond t (Some v) None)
kept g key q v true same some = or_present (g q) (Some v) (ap (λ k. is_some (g k)) (sym (same refl)) ∙ some)
kept g key q v false same some = sym (or_none (g q))

-- the values of a mapped table are the mapped values
pub entry_map : {V W : Type 0} (f : V → W) (o : Option V) (t : Bool) (v : V)
    → option_map f (option_or o (cond t (Some v) None)) ≡ option_or (option_map f o) (cond t (Some (f v)) None)
entry_map f (Some x) t v = refl
entry_map f None true v = refl
entry_map f None false v = refl
