-- Words with the bits of all requested tags tell whether each is marked.
use Rattle.std.proofs.Common.{◌≡◌, ℕ, ◌+◌, ◌/◌, ◌%◌, ◌^◌, ◌<◌, ◌≤◌, zero, suc, true, false, ◌&&◌, List, [], ◌∷◌, length, get_or, take, refl, sym, ap, ◌∙◌}
use Rattle.std.proofs.Common.{arith, eq-eqb, ⊎_elim, inl, inr, ◌⊎◌, Bool}
use Rattle.std.specs.Prelude.{◌==◌, nat_lt}
use Rattle.std.specs.Int.{bit_at}
use Rattle.std.specs.Int.Bits.{bit_or}
use Rattle.std.specs.List.{list_all, fold}
use Rattle.std.proofs.lemmas.Bool.{and_parts, cases_eq, eqb-true, false_from_ne_true, false≢true, ltb-true, ltb-false}
use Rattle.std.proofs.lemmas.List.{get_or_past}
use Rattle.std.proofs.lemmas.Nat.Bits.{bit_at_or, bit_at-lt, bit_at-zero, bit_at-pow_same, bit_at-pow_other, same_from_bits}
use Rattle.std.proofs.lemmas.List.Sums.{fold_more}
use Rattle.arrival_journal.specs.TagBits.{tag_place, no_bits, with_bit}
use Rattle.journal_traces.specs.SkippedEntries.{bit_of_words, is_marked, with_requested, requested_bits}
use Rattle.journal_traces.proofs.TagBits.{word_put, word_still, as_many, below_eight}

-- each bit of the second words is one of the first
abbrev Covers : List ℕ → List ℕ → Type 0
Covers a m = (k i : ℕ) → bit_at (get_or m k 0) i ≤ bit_at (get_or a k 0) i

-- ---- one bit more
module _ (a m : List ℕ) (p : ℕ) (below : p / 64 < length m) where
  -- the words with the bit have each bit of those without it
  grown : (k i : ℕ) → bit_at (get_or m k 0) i ≤ bit_at (get_or (with_bit m p) k 0) i
  grown k i = ⊎_elim here (λ apart. let same = ap (λ w. bit_at w i) (word_still m p k apart) in omega (arith, same)) (cases_eq k (p / 64))
    where
      here : k ≡ p / 64 → bit_at (get_or m k 0) i ≤ bit_at (get_or (with_bit m p) k 0) i
      here same = let put = ap (λ w. bit_at w i) (word_put m p k below same) in omega (arith, put, bit_at_or (get_or m k 0) (2 ^ (p % 64)) i)

  covers_rest : Covers a (with_bit m p) → Covers a m
  covers_rest h k i = omega (arith, h k i, grown k i)

  covers_own : Covers a (with_bit m p) → bit_of_words a p ≡ 1
  covers_own h =
      let r = p % 64 in
      let put = ap (λ w. bit_at w r) (word_put m p (p / 64) below refl) in
      omega (arith, h (p / 64) r, put, bit_at_or (get_or m (p / 64) 0) (2 ^ r) r, bit_at-pow_same r, bit_at-lt (get_or a (p / 64) 0) r)

  covers_more : Covers a m → bit_of_words a p ≡ 1 → Covers a (with_bit m p)
  covers_more h own k i = ⊎_elim here (λ apart. let same = ap (λ w. bit_at w i) (word_still m p k apart) in omega (arith, same, h k i)) (cases_eq k (p / 64))
    where
      at : k ≡ p / 64 → i ≡ p % 64 → bit_at (2 ^ (p % 64)) i ≤ bit_at (get_or a k 0) i
      at same bit =
          let one : bit_at (get_or a k 0) i ≡ 1 = (λ j. bit_at (get_or a (same j) 0) (bit j)) ∙ own in
          let low = bit_at-lt (2 ^ (p % 64)) i in omega (arith, one, low)

      here : k ≡ p / 64 → bit_at (get_or (with_bit m p) k 0) i ≤ bit_at (get_or a k 0) i
      here same =
          let put = ap (λ w. bit_at w i) (word_put m p k below same) in
          let new : bit_at (2 ^ (p % 64)) i ≤ bit_at (get_or a k 0) i =
          ⊎_elim (at same) (λ apart. omega (arith, bit_at-pow_other (p % 64) i apart)) (cases_eq i (p % 64)) in
          omega (arith, put, bit_at_or (get_or m k 0) (2 ^ (p % 64)) i, h k i, new)

-- ---- all of them
parts : (a m : List ℕ) (tags : List (List ℕ × List ℕ)) → length m ≡ 8 → Covers a (fold with_requested m tags)
    → Covers a m × (list_all (is_marked a) tags ≡ true)
parts a m [] eight h = (h, refl)
parts a m (t ∷ ts) eight h =
    let p = tag_place t.0 t.1 in
    let below = below_eight m p eight (omega arith) in
    let rest = parts a (with_requested m t) ts (as_many m p eight) h in
    let own : is_marked a t ≡ true = eq-eqb (bit_of_words a p) 1 (covers_own a m p below rest.0) in
    (covers_rest a m p below rest.0, λ i. own i && rest.1 i)

whole : (a m : List ℕ) (tags : List (List ℕ × List ℕ)) → length m ≡ 8 → Covers a m → list_all (is_marked a) tags ≡ true
    → Covers a (fold with_requested m tags)
whole a m [] eight h e = h
whole a m (t ∷ ts) eight h e =
    let p = tag_place t.0 t.1 in
    let below = below_eight m p eight (omega arith) in
    let ab = and_parts (is_marked a t) (list_all (is_marked a) ts) e in
    let own = eqb-true (bit_of_words a p) 1 ab.0 in
    whole a (with_requested m t) ts (as_many m p eight) (covers_more a m p below h own) ab.1

long : (m : List ℕ) (tags : List (List ℕ × List ℕ)) → length m ≡ 8 → length (fold with_requested m tags) ≡ 8
long m [] eight = eight
long m (t ∷ ts) eight = long (with_requested m t) ts (as_many m (tag_place t.0 t.1) eight)

-- ---- as tests of the words
covers_same : (a m : ℕ) → ((i : ℕ) → bit_at m i ≤ bit_at a i) → bit_or a m ≡ a
covers_same a m h = same_from_bits (bit_or a m) a (λ i. omega (arith, h i, bit_at_or a m i))

same_covers : (a m : ℕ) → bit_or a m ≡ a → (i : ℕ) → bit_at m i ≤ bit_at a i
same_covers a m e i = omega (arith, bit_at_or a m i, ap (λ n. bit_at n i) e)

none_set : (k : ℕ) → get_or no_bits k 0 ≡ 0
none_set zero = refl
none_set (suc zero) = refl
none_set (suc (suc zero)) = refl
none_set (suc (suc (suc zero))) = refl
none_set (suc (suc (suc (suc zero)))) = refl
none_set (suc (suc (suc (suc (suc zero))))) = refl
none_set (suc (suc (suc (suc (suc (suc zero)))))) = refl
none_set (suc (suc (suc (suc (suc (suc (suc zero))))))) = refl
none_set (suc (suc (suc (suc (suc (suc (suc (suc k)))))))) = refl

none_covered : (a : List ℕ) → Covers a no_bits
none_covered a k i = let none = ap (λ w. bit_at w i) (none_set k) in omega (arith, none, bit_at-zero i)

below_or_not : (k n : ℕ) → (k < n) ⊎ (n ≤ k)
below_or_not k n = by (nat_lt k n) refl
  where
    by : (b : Bool) → nat_lt k n ≡ b → (k < n) ⊎ (n ≤ k)
    by true e = inl (ltb-true k n e)
    by false e = inr (ltb-false k n e)

-- a word that isn't covered
pub unmarked : (bits mask : List ℕ) (asked : List (List ℕ × List ℕ)) (k : ℕ) → mask ≡ requested_bits asked
    → (bit_or (get_or bits k 0) (get_or mask k 0) == get_or bits k 0) ≡ false → list_all (is_marked bits) asked ≡ false
unmarked bits mask asked k is none = false_from_ne_true (list_all (is_marked bits) asked) (λ e.
    let all = whole bits no_bits asked refl (none_covered bits) e in
    let word = get_or bits k 0 in
    let same : bit_or word (get_or mask k 0) ≡ word = ap (λ m. bit_or word (get_or m k 0)) is ∙ covers_same word (get_or (requested_bits asked) k 0) (all k) in
    false≢true (sym none ∙ eq-eqb (bit_or word (get_or mask k 0)) word same))

-- all of them are covered, and there are no others
pub all_marked_by : (bits mask : List ℕ) (asked : List (List ℕ × List ℕ)) (n : ℕ) → 8 ≤ n → mask ≡ requested_bits asked
    → ((k : ℕ) → k < n → bit_or (get_or bits k 0) (get_or mask k 0) ≡ get_or bits k 0) → list_all (is_marked bits) asked ≡ true
all_marked_by bits mask asked n up is each = (parts bits no_bits asked refl covers).1
  where
    words : List ℕ
    words = requested_bits asked

    within : (k : ℕ) → k < n → (i : ℕ) → bit_at (get_or words k 0) i ≤ bit_at (get_or bits k 0) i
    within k below = same_covers (get_or bits k 0) (get_or words k 0) (ap (λ m. bit_or (get_or bits k 0) (get_or m k 0)) (sym is) ∙ each k below)

    past : (k : ℕ) → n ≤ k → (i : ℕ) → bit_at (get_or words k 0) i ≤ bit_at (get_or bits k 0) i
    past k beyond i =
        let eight = long no_bits asked refl in
        let out : length words ≤ k = omega (arith, eight, up, beyond) in
        let none = ap (λ w. bit_at w i) (get_or_past words k 0 out) in omega (arith, none, bit_at-zero i)

    covers : Covers bits words
    covers k i = ⊎_elim (λ below. within k below i) (λ beyond. past k beyond i) (below_or_not k n)

pub mask_more : (asked : List (List ℕ × List ℕ)) (i : ℕ) (a : List ℕ × List ℕ) → i < length asked → a ≡ get_or asked i a
    → with_requested (requested_bits (take i asked)) a ≡ requested_bits (take (i + 1) asked)
mask_more asked i a le is = ap (with_requested (requested_bits (take i asked))) is ∙ sym (fold_more with_requested no_bits asked i a le)
