-- Bounds stay above the starts of their blocks.
use Rattle.std.proofs.Common.{◌≡◌, ℕ, ℤ, pos, ◌+◌, ◌/◌, ◌<◌, false, List, [], ◌∷◌, ◌++◌, length, get_or, sym, ap, ◌∙◌, inl, inr, arith, eqb-true, length-append}
use Rattle.std.specs.Prelude.{int_lt, if◌then◌else◌, ◌==◌}
use Rattle.std.proofs.lemmas.Int.{ints}
use Rattle.std.proofs.lemmas.Bool.{cases_lt, cases_Bool, eqb-false}
use Rattle.std.proofs.lemmas.List.{get_or_append_left, get_or_push}
use Rattle.trace_ring.specs.FirstStarts.{IsBounded}

rises : (a b c : ℤ) → int_lt a b ≡ false → int_lt b c ≡ false → int_lt a c ≡ false
rises a b c p q = grind (arith, ints)

pub count_more : (n m k : ℕ) → m ≡ (n + 255) / 256 → k ≡ (if n / 256 == m then m + 1 else m) → k ≡ (n + 1 + 255) / 256
count_more n m k is e = elim (cases_Bool (n / 256 == m)) [
  | inl hit ↦ let same : n / 256 ≡ m = eqb-true (n / 256) m hit in let more : k ≡ m + 1 = e ∙ ap (λ b. if b then m + 1 else m) hit in omega arith
  | inr miss ↦ let other = eqb-false (n / 256) m miss in let more : k ≡ m = e ∙ ap (λ b. if b then m + 1 else m) miss in omega (arith, other)
]

-- one more start, to which its block's bound was raised
pub bounded_more : (room evicted : ℕ) (opened bounds raised : List ℤ) (start : ℤ) → IsBounded room evicted opened bounds → length opened < room
    → length raised ≡ (if length opened / 256 == length bounds then length bounds + 1 else length bounds)
    → int_lt (get_or raised (length opened / 256) (pos 0)) start ≡ false
    → ((k : ℕ) → k < length bounds → int_lt (get_or raised k (pos 0)) (get_or bounds k (pos 0)) ≡ false)
    → IsBounded room evicted (opened ++ start ∷ []) raised
bounded_more room evicted opened bounds raised start b space count own none_falls =
    let long : length (opened ++ start ∷ []) ≡ length opened + 1 = length-append opened (start ∷ []) in
    let within = b.within in
    let few = b.few in
    let blocks = b.blocks in
    record {
      fits = b.fits;
      within = omega arith;
      few = omega arith;
      blocks = count_more (length opened) (length bounds) (length raised) blocks count ∙ ap (λ n. (n + 255) / 256) (sym long);
      above = λ i below. elim (cases_lt i (length opened)) [
        | inl old ↦
            ap (λ s. int_lt (get_or raised (i / 256) (pos 0)) s) (get_or_append_left opened (start ∷ []) (pos 0) i old)
            ∙ rises (get_or raised (i / 256) (pos 0)) (get_or bounds (i / 256) (pos 0)) (get_or opened i (pos 0)) (none_falls (i / 256) (omega arith))
            (b.above i old)
        | inr new ↦
            let at : length opened ≡ i = omega arith in
            ap (λ s. int_lt (get_or raised (i / 256) (pos 0)) s) (get_or_push opened start (pos 0) i at)
            ∙ ap (λ n. int_lt (get_or raised (n / 256) (pos 0)) start) (sym at) ∙ own
      ];
    }
