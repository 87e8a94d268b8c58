-- Rows without duplicates, and where a test finds one.
use Rattle.std.proofs.Common.{◌≡◌, ℕ, ◌<◌, Bool, false, List, [], ◌∷◌, ◌++◌, length, get_or, sym, ◌∙◌, inl, inr, arith, length-append}
use Rattle.std.specs.Bool.{Decides}
use Rattle.std.specs.List.{position_or_len}
use Rattle.std.proofs.lemmas.Bool.{cases_eq, cases_order, false_from_ne_true}
use Rattle.std.proofs.lemmas.List.{get_or_append_left, get_or_push}
use Rattle.std.proofs.lemmas.List.Sums.{position_or_len_is}
use Rattle.hash_tables.specs.RowPlaces.{AreOnce}

module _ {A : Type 0} (same : A → A → Bool) (decides : (a b : A) → Decides (same a b) (a ≡ b)) (default : A) where
  pub differs : (a b : A) → (b ≡ a → ⊥) → same a b ≡ false
  differs a b apart = false_from_ne_true (same a b) (λ e. apart (sym ((decides a b).0 e)))

  -- the row of what is sought; the number of rows if it has none
  pub row_none : (sought : A) (rows : List A) → ((r : ℕ) → r < length rows → get_or rows r default ≡ sought → ⊥)
      → position_or_len (same sought) rows ≡ length rows
  row_none sought rows nowhere =
      position_or_len_is (same sought) rows (length rows) default (omega arith) (λ k below. differs sought (get_or rows k default) (nowhere k below))
      (λ below. absurd (omega arith))

  pub row_some : (sought : A) (rows : List A) (r : ℕ) → r < length rows → get_or rows r default ≡ sought → AreOnce default rows
      → position_or_len (same sought) rows ≡ r
  row_some sought rows r rn is once =
      position_or_len_is (same sought) rows r default (omega arith) (λ k below. differs sought (get_or rows k default) (λ e. once k r below rn (e ∙ sym is)))
      (λ _. (decides sought (get_or rows r default)).1 (sym is))

-- rows that are equal are one row
pub one_row : {A : Type 0} (default : A) (rows : List A) (i j : ℕ) → AreOnce default rows → i < length rows → j < length rows
    → get_or rows i default ≡ get_or rows j default → i ≡ j
one_row default rows i j once a b same = elim (cases_order i j) [
  | inl e ↦ e
  | inr o ↦ elim o [ inl below ↦ absurd (once i j below b same) | inr above ↦ absurd (once j i above a (sym same)) ]
]

-- one more
pub once_more : {A : Type 0} (default : A) (rows : List A) (next : A) → AreOnce default rows → ((r : ℕ) → r < length rows → get_or rows r default ≡ next → ⊥)
    → AreOnce default (rows ++ next ∷ [])
once_more default rows next once absent i j below within same =
    let m = length-append rows (next ∷ []) in
    let old : (r : ℕ) → r < length rows → get_or (rows ++ next ∷ []) r default ≡ get_or rows r default =
    λ r below. get_or_append_left rows (next ∷ []) default r below in
    elim (cases_eq j (length rows)) [
      | inl e ↦ absent i (omega arith) (sym (old i (omega arith)) ∙ same ∙ get_or_push rows next default j (sym e))
      | inr other ↦ once i j below (omega arith) (sym (old i (omega arith)) ∙ same ∙ old j (omega arith))
    ]
