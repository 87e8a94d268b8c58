-- The steps keep the rule of the two copies.
use Rattle.std.proofs.Common.{◌≡◌, ℕ, List, [], ◌∷◌, refl, subst, sym, ◌∙◌, ⊎_elim}
use Rattle.std.proofs.Common.{take, length, max, ◌≤◌, arith}
use mathlib.Core.Option.{some-ne-none}
use mathlib.Core.List.{IsPrefix}
use Rattle.crossbeam_utils.specs.Register.{Admits, Turns, TurnsAt}
use Rattle.atomic_table.proofs.Lists.{at_set, at_snoc}
use Rattle.read_side.specs.CountedLogs.{LogBook}
use Rattle.trace_model.specs.declared.entry.Entry.{Entry}
use Rattle.trace_model.specs.declared.limits.Limits.{Limits}
use Rattle.trace_model.proofs.Prefixes.{prefix_self, prefix_trans, prefix_length, prefix_grown, take_whole}
use Rattle.read_side.specs.CopyRules.{Sees, Holds}
use Rattle.read_side.specs.Copies.{CopyValue}

pub admits : (b : LogBook) (l : Limits) → Admits (Holds b l) []
admits b l x views h = record {
  book = h.book;
  limits = h.limits;
  log = h.log;
  begins =
      λ reader v at. ⊎_elim (h.begins reader v)
      (λ e. let P : List Entry → Type 0 = λ z. IsPrefix z x.entries in subst P e (x.entries, refl)) (at_snoc views [] v reader at);
}

-- the published list grows from x to y, which this reader has then seen
pub turns : (b : LogBook) (l : Limits) (seat : ℕ) (v : List Entry) (x y : CopyValue) → IsPrefix x.entries y.entries
    → (Holds b l x [] → (y.book ≡ b) × (y.limits ≡ l) × (y.log ≡ y.entries)) → TurnsAt (Holds b l) seat v x y (Sees b l)
turns b l seat v x y more fits views h at =
    let f = fits (record { book = h.book; limits = h.limits; log = h.log; begins = λ j u e. absurd (some-ne-none u (sym e)) }) in (
      y.entries,
      record {
        book = f.0;
        limits = f.1;
        log = f.2;
        begins =
            λ j u e. ⊎_elim (λ t. let P : List Entry → Type 0 = λ z. IsPrefix z y.entries in subst P t.1 (prefix_self y.entries))
            (λ t. prefix_trans u x.entries y.entries (h.begins j u t.1) more) (at_set views seat j y.entries u e);
      },
      (prefix_trans v x.entries y.entries (h.begins seat v at) more, refl, f.2, f.0, f.1),
    )

pub enters : (b : LogBook) (l : Limits) (seat : ℕ) (v : List Entry) → Turns (Holds b l) seat v (λ x. x) (Sees b l)
enters b l seat v x = turns b l seat v x x (prefix_self x.entries) (λ h. (h.book, h.limits, h.log))

-- what a reader knows after it entered x
pub entered : (own learnt : ℕ) (v x log log' : List Entry) → own ≤ length log → learnt ≤ length log → IsPrefix log log' → own ≤ length v → IsPrefix v x
    → learnt ≤ length x → IsPrefix x log'
    → IsPrefix (take (max own learnt) log) x × (take (max (length x) learnt) log' ≡ x)
entered own learnt v x log log' a b p c q d r =
    let le : length v ≤ length x = prefix_length v x q in
    let same : take (max (length x) learnt) log' ≡ x = let P : ℕ → Type 0 = λ n. take n log' ≡ x in let e : length x ≡ max (length x) learnt = omega arith in
    subst P e (take_whole x log' r) in
    let grown : IsPrefix (take (max own learnt) log) (take (max (length x) learnt) log') =
    prefix_grown (max own learnt) (max (length x) learnt) log log' p (omega arith) (omega arith) in
    ((let P : List Entry → Type 0 = λ z. IsPrefix (take (max own learnt) log) z in subst P same grown), same)

-- two empty copies keep the rule, with the writer's own view
pub starts : (b : LogBook) (l : Limits) (x : CopyValue) → x.book ≡ b → x.limits ≡ l → x.entries ≡ [] → x.log ≡ [] → Holds b l x ([] ∷ [])
starts b l x book limits entries log =
    admits b l x [] (record { book = book; limits = limits; log = log ∙ sym entries; begins = λ j u e. absurd (some-ne-none u (sym e)) })
