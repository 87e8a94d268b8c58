-- Starts that are read from one place on, and those that are skipped.
use Rattle.std.proofs.Common.{◌≡◌, ℕ, zero, suc, ℤ, pos, ◌+◌, ◌-◌, ◌*◌, ◌/◌, ◌<◌, ◌≤◌, true, false, List, [], ◌∷◌, ◌++◌, length, get_or, drop, sym, ap, ◌∙◌}
use Rattle.std.proofs.Common.{inl, inr, arith}
use Rattle.std.specs.Prelude.{int_lt, if◌then◌else◌}
use Rattle.std.proofs.lemmas.Int.{ints}
use Rattle.std.proofs.lemmas.Bool.{cases_lt}
use Rattle.std.proofs.lemmas.List.{drop_more, drop_all, append-nil}
use Rattle.trace_ring.specs.FirstStarts.{positions_from, positions_after, IsBounded}

pub one_hit : (time : ℤ) (xs : List ℤ) (at place : ℕ) → at < length xs → int_lt time (get_or xs at (pos 0)) ≡ true
    → positions_from time place (drop at xs) ≡ place ∷ positions_from time (place + 1) (drop (at + 1) xs)
one_hit time xs at place below e =
    let next : suc place ≡ place + 1 = omega arith in
    ap (positions_from time place) (drop_more xs at (pos 0) below)
    ∙ ap (λ b. if b then place ∷ positions_from time (suc place) (drop (at + 1) xs) else positions_from time (suc place) (drop (at + 1) xs)) e
    ∙ ap (λ n. place ∷ positions_from time n (drop (at + 1) xs)) next

pub one_miss : (time : ℤ) (xs : List ℤ) (at place : ℕ) → at < length xs → int_lt time (get_or xs at (pos 0)) ≡ false
    → positions_from time place (drop at xs) ≡ positions_from time (place + 1) (drop (at + 1) xs)
one_miss time xs at place below e =
    let next : suc place ≡ place + 1 = omega arith in
    ap (positions_from time place) (drop_more xs at (pos 0) below)
    ∙ ap (λ b. if b then place ∷ positions_from time (suc place) (drop (at + 1) xs) else positions_from time (suc place) (drop (at + 1) xs)) e
    ∙ ap (λ n. positions_from time n (drop (at + 1) xs)) next

-- none of the next k starts is after the time
pub all_miss : (time : ℤ) (xs : List ℤ) (k at place : ℕ) → ((i : ℕ) → at ≤ i → i < at + k → i < length xs → int_lt time (get_or xs i (pos 0)) ≡ false)
    → positions_from time place (drop at xs) ≡ positions_from time (place + k) (drop (at + k) xs)
all_miss time xs zero at place h =
    let p : place ≡ place + 0 = omega arith in
    let a : at ≡ at + 0 = omega arith in
    λ i. positions_from time (p i) (drop (a i) xs)
all_miss time xs (suc k) at place h = elim (cases_lt at (length xs)) [
  | inl below ↦
      let p : place + 1 + k ≡ place + suc k = omega arith in
      let a : at + 1 + k ≡ at + suc k = omega arith in
      one_miss time xs at place below (h at (omega arith) (omega arith) below)
      ∙ all_miss time xs k (at + 1) (place + 1) (λ i from to le. h i (omega arith) (omega arith) le)
      ∙ (λ i. positions_from time (p i) (drop (a i) xs))
  | inr past ↦
      ap (positions_from time place) (drop_all at xs past) ∙ sym (ap (positions_from time (place + suc k)) (drop_all (at + suc k) xs (omega arith)))
]

not_later : (time bound start : ℤ) → int_lt time bound ≡ false → int_lt bound start ≡ false → int_lt time start ≡ false
not_later time bound start p q = grind (arith, ints)

-- the remaining starts of a block whose bound is not after the time
pub block_miss : (room evicted : ℕ) (opened bounds : List ℤ) (time : ℤ) (at : ℕ) → IsBounded room evicted opened bounds → evicted ≤ at → at < length opened
    → int_lt time (get_or bounds (at / 256) (pos 0)) ≡ false
    → positions_from time (at - evicted) (drop at opened) ≡ positions_from time ((at / 256 + 1) * 256 - evicted) (drop ((at / 256 + 1) * 256) opened)
block_miss room evicted opened bounds time at b from below early =
    let k : ℕ = (at / 256 + 1) * 256 - at in
    let to : at + k ≡ (at / 256 + 1) * 256 = omega arith in
    let place : at - evicted + k ≡ (at / 256 + 1) * 256 - evicted = omega arith in
    all_miss time opened k at (at - evicted) (λ i low high le.
    let same : at / 256 ≡ i / 256 = omega arith in
    not_later time (get_or bounds (at / 256) (pos 0)) (get_or opened i (pos 0)) early
    (ap (λ n. int_lt (get_or bounds n (pos 0)) (get_or opened i (pos 0))) same ∙ b.above i le))
    ∙ (λ i. positions_from time (place i) (drop (to i) opened))

-- ---- the places found so far
pub found_start : (time : ℤ) (opened : List ℤ) (evicted : ℕ)
    → [] ++ positions_from time (evicted - evicted) (drop evicted opened) ≡ positions_after time (drop evicted opened)
found_start time opened evicted = let none : evicted - evicted ≡ 0 = omega arith in ap (λ n. positions_from time n (drop evicted opened)) none

pub found_end : (time : ℤ) (places : List ℕ) (opened : List ℤ) (at place : ℕ) → length opened ≤ at
    → places ++ positions_from time place (drop at opened) ≡ places
found_end time places opened at place past = ap (λ xs. places ++ positions_from time place xs) (drop_all at opened past) ∙ append-nil places
