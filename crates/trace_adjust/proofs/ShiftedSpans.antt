-- One more span of the trace as it is shown.
use Rattle.std.proofs.Common.{◌≡◌, ℕ, zero, suc, ℤ, pos, ◌+◌, ◌<◌, ◌≤◌, List, [], ◌∷◌, ◌++◌, map, take, drop, length, get_or, set, refl, sym}
use Rattle.std.proofs.Common.{ap, ◌∙◌, arith, append_assoc, subst}
use Rattle.std.proofs.lemmas.List.{append-nil, drop_all, take_all, drop_more, take_more, length-take-le, get_or_at, set_at}
use Rattle.jaeger_model.specs.declared.placed.Placed.{Placed}
use Rattle.trace_model.specs.declared.answer.Shown.{Shown}
use Rattle.trace_model.specs.Adjusting.{unadjusted, shifted, shown_after, skew_adjusted_after, skew_adjusted, spans_of, said_after}
use Rattle.trace_model.specs.Adjusting.{shown_adjusted_after, shown_adjusted}
use Rattle.trace_adjust.specs.SpanDeltas.{AreDeltas}
use Rattle.trace_model.proofs.SharingShown.{same_spans}
use Rattle.trace_adjust.proofs.FirstPlaceTables.{as_many, placed_at}

pub as_many_shown : (m : ℕ) (all before : List Placed) (ss : List Shown) → length (shown_adjusted_after m all before ss) ≡ length ss
as_many_shown m all before [] = refl
as_many_shown m all before (s ∷ ss) = ap suc (as_many_shown m all (before ++ s.placed ∷ []) ss)

-- what is shown at a place
adjusted_at : (m : ℕ) (all before : List Placed) (ss : List Shown) (i : ℕ) (d : Shown) → i < length ss
    → get_or (shown_adjusted_after m all before ss) i d ≡ said_after (get_or ss i d) (shown_after m all (before ++ take i (spans_of ss)) (get_or ss i d).placed)
adjusted_at m all before [] i d l = absurd (omega arith)
adjusted_at m all before (s ∷ ss) zero d l = ap (λ b. said_after s (shown_after m all b s.placed)) (sym (append-nil before))
adjusted_at m all before (s ∷ ss) (suc i) d l =
    adjusted_at m all (before ++ s.placed ∷ []) ss i d (omega arith)
    ∙ ap (λ b. said_after (get_or ss i d) (shown_after m all b (get_or ss i d).placed)) (append_assoc before (s.placed ∷ []) (take i (spans_of ss)))

-- one more element of the new list overwrites the old one
module _ {X : Type 0} (xs ys items : List X) (i : ℕ) (d : X) (l : i < length xs) (many : length ys ≡ length xs) (inv : items ≡ take i ys ++ drop i xs) where
  few : length (take i ys) ≡ i
  few = length-take-le i ys (omega (arith, l, many))

  now : items ≡ take i ys ++ (get_or xs i d ∷ drop (i + 1) xs)
  now = inv ∙ ap (λ r. take i ys ++ r) (drop_more xs i d l)

  pub as_it_was : get_or items i d ≡ get_or xs i d
  as_it_was = ap (λ r. get_or r i d) now ∙ get_or_at (take i ys) (get_or xs i d) (drop (i + 1) xs) d i few

  pub written : (v : X) → v ≡ get_or ys i d → set items i v ≡ take (i + 1) ys ++ drop (i + 1) xs
  written v e =
      ap (λ r. set r i v) now ∙ set_at (take i ys) (get_or xs i d) (drop (i + 1) xs) v i few
      ∙ ap (λ w. take i ys ++ (w ∷ drop (i + 1) xs)) e
      ∙ sym (append_assoc (take i ys) (get_or ys i d ∷ []) (drop (i + 1) xs))
      ∙ ap (λ r. r ++ drop (i + 1) xs) (sym (take_more ys i d (omega (arith, l, many))))

pub all_written : (m : ℕ) (ss items : List Shown) (i : ℕ) → length ss ≤ i → items ≡ take i (shown_adjusted m ss) ++ drop i ss → items ≡ shown_adjusted m ss
all_written m ss items i l inv =
    let ys = shown_adjusted m ss in
    let many = as_many_shown m (spans_of ss) [] ss in
    inv ∙ ap (λ r. take i ys ++ r) (drop_all i ss l) ∙ append-nil (take i ys) ∙ take_all i ys (omega (arith, l, many))

-- the loop's step: s is the span at the place, and v what it becomes
pub shifted_more : (m : ℕ) (ss items : List Shown) (ds : List ℤ) (i : ℕ) (s v : Shown) → i < length ss → s ≡ get_or items i s
    → AreDeltas m (spans_of ss) ds
    → v ≡ said_after s (shifted m (get_or ds i (pos 0)) s.placed) → items ≡ take i (shown_adjusted m ss) ++ drop i ss
    → set items i v ≡ take (i + 1) (shown_adjusted m ss) ++ drop (i + 1) ss
shifted_more m ss items ds i s v l here are one inv =
    let all = spans_of ss in
    let many = as_many_shown m all [] ss in
    let there : s ≡ get_or ss i s = here ∙ as_it_was ss (shown_adjusted m ss) items i s l many inv in
    let as_placed = as_many ss in
    let moved : shifted m (get_or ds i (pos 0)) s.placed ≡ shown_after m all (take i all) s.placed =
    subst (λ x. shifted m (get_or ds i (pos 0)) x ≡ shown_after m all (take i all) x) (sym (placed_at ss i s l there))
    (are.1 i s.placed (omega (arith, as_placed, l))) in
    let right : v ≡ get_or (shown_adjusted m ss) i s =
    one ∙ ap (said_after s) moved
    ∙ ap (λ x. said_after x (shown_after m all (take i all) x.placed)) there ∙ sym (adjusted_at m all [] ss i s l) in
    written ss (shown_adjusted m ss) items i s l many inv v right

-- ---- if there was no warning before
fresh_after : (m : ℕ) (all before rest : List Placed) → shown_adjusted_after m all before (map unadjusted rest) ≡ skew_adjusted_after m all before rest
fresh_after m all before [] = refl
fresh_after m all before (p ∷ rest) = ap (λ r. shown_after m all before p ∷ r) (fresh_after m all (before ++ p ∷ []) rest)

pub fresh : (m : ℕ) (ps : List Placed) → shown_adjusted m (map unadjusted ps) ≡ skew_adjusted m ps
fresh m ps = ap (λ all. shown_adjusted_after m all [] (map unadjusted ps)) (same_spans ps) ∙ fresh_after m ps [] ps
