-- Walks over places.
use Rattle.std.proofs.Common.{◌≡◌, ℕ, suc, ◌+◌, ◌-◌, ◌<◌, Bool, true, false, cond, List, [], ◌∷◌, length, get_or, Option, Some, None, refl, sym, ap, subst, ◌∙◌}
use Rattle.std.proofs.Common.{inl, inr, arith}
use Rattle.std.specs.Prelude.{count_by}
use Rattle.std.specs.List.{sum_by}
use Rattle.std.proofs.lemmas.Bool.{false≢true, lt-ltb, cases_eq}
use Rattle.std.proofs.lemmas.Bool.Decides.{nat_tests}
use Rattle.std.proofs.lemmas.List.Sums.{sum_by-cons}
use Rattle.hash_tables.specs.RowPlaces.{start_of, steps, is_taken, EachBefore, AreTaken, Reaches, Walked, LeadsIn, Found}

-- steps
pub steps_within : (n s k : ℕ) → s < n → k < n → steps n s k < n
steps_within n s k a b = grind (arith, nat_tests)

pub same_place : (n s j k : ℕ) → s < n → j < n → k < n → steps n s j ≡ steps n s k → j ≡ k
same_place n s j k a b c e = grind (arith, nat_tests)

pub each_more : (P : ℕ → Type 0) (slots : List ℕ) (s d k : ℕ) → s < length slots → k < length slots → steps (length slots) s k ≡ d → EachBefore P slots s d
    → P (get_or slots k 0) → EachBefore P slots s (d + 1)
each_more P slots s d k sn kn at before here j jn below =
    elim (cases_eq (steps (length slots) s j) d) [
      | inl e ↦ subst (λ (i : ℕ). P (get_or slots i 0)) (same_place (length slots) s k j sn kn jn (at ∙ sym e)) here
      | inr other ↦ before j jn (omega arith)
    ]

-- a mark that is taken, of a row that isn't sought
abbrev pub IsPassed : (ℕ → Bool) → ℕ → Type 0
IsPassed is mark = (0 < mark) × (is (mark - 1) ≡ false)

-- counts
abbrev pub one_if : ℕ → ℕ
one_if s = cond (is_taken s) 1 0

count_all : (slots : List ℕ) → ((j : ℕ) → j < length slots → 0 < get_or slots j 0) → count_by is_taken slots ≡ length slots
count_all [] all = refl
count_all (x ∷ xs) all =
    let first : 0 < x = all 0 (omega arith) in
    let rest = count_all xs (λ j below. all (suc j) (omega arith)) in
    let one : one_if x ≡ 1 = ap (λ b. cond b 1 0) (lt-ltb 0 x first) in
    let more : 1 + length xs ≡ suc (length xs) = omega arith in
    sum_by-cons one_if x xs ∙ ap (λ n. n + sum_by one_if xs) one ∙ ap (λ n. 1 + n) rest ∙ more

-- some place is free
pub never_all : (slots : List ℕ) (s : ℕ) → s < length slots → count_by is_taken slots < length slots → AreTaken slots s (length slots) → ⊥
never_all slots s sn free taken =
    let all = count_all slots (λ j below. taken j below (steps_within (length slots) s j sn below)) in
    absurd (omega arith)

-- what a walk from the hash implies for all rows
pub found_is : (hashes slots : List ℕ) (is : ℕ → Bool) (hash : ℕ) → LeadsIn hashes slots
    → ((row : ℕ) → row < length hashes → is row ≡ true → get_or hashes row 0 ≡ hash)
    → (r : Option ℕ) → Walked slots (start_of hash (length slots)) (length hashes) is r → Found (length hashes) is r
found_is hashes slots is hash h same (Some row) w = w
found_is hashes slots is hash h same None w = λ row below. elim (is row) as (λ b. is row ≡ b → b ≡ false) [
  | true ↦ λ e. absurd (false≢true
      (sym (w row (subst (λ (x : ℕ). Reaches slots (start_of x (length slots)) (row + 1)) (same row below e) (h.found row below))) ∙ e))
  | false ↦ λ _. refl
] refl
