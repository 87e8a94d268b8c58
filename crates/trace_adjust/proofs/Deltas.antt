-- Spans moved by stored deltas.
use Rattle.std.proofs.Common.{◌≡◌, ℕ, zero, suc, ℤ, pos, ◌<◌, Bool, true, false, List, [], ◌∷◌, ◌++◌, map, take, length, get_or, refl, sym, ap}
use Rattle.std.proofs.Common.{◌∙◌, arith, append_assoc}
use Rattle.std.specs.Prelude.{Option, Some, None, option_map, not, nat_le, nat_abs, drop, slice_get, if◌then◌else◌}
use Rattle.std.specs.List.{list_any, list_all}
use Rattle.std.specs.Ordering.{int_eq}
use Rattle.std.proofs.lemmas.Bool.{and_parts}
use Rattle.std.proofs.lemmas.List.{append-nil, length-map, get_or-map}
use Rattle.jaeger_model.specs.declared.placed.Placed.{Placed}
use Rattle.trace_model.specs.declared.answer.Shown.{Shown}
use Rattle.trace_model.specs.ServiceLinks.{has_id}
use Rattle.trace_model.specs.Adjusting.{clock_of, shifted, shifted_by, shown_after, unadjusted, skew_adjusted, skew_adjusted_after}
use Rattle.trace_model.specs.Adjusting.{warned, past_limit, past_times, adjusted_by, all_fit, moved_placed}
use Rattle.trace_adjust.specs.LentSpans.{placed_as, shifted_all}
use Rattle.trace_adjust.specs.KnownClocks.{clock_with, AreAllSet}
use Rattle.trace_adjust.specs.declared.known_deltas.KnownDelta.{KnownDelta}
use Rattle.trace_adjust.specs.KnownDeltas.{or_zero, delta_or_zero, deltas_in}
use Rattle.trace_adjust.specs.SpanDeltas.{AreRepeated, IsZeroWhere, AreDeltas}
use Rattle.trace_adjust.proofs.KnownClocks.{with_at}

-- ---- the deltas are those of the clocks, 0 where an id is repeated
by_mark : (m : ℕ) (p : Placed) (o : Option ℤ) (repeated : Bool)
    → shifted m (if repeated then pos 0 else or_zero o) p ≡ (if repeated then unadjusted p else shifted_by m p (option_map (clock_with m p) o))
by_mark m p o true = refl
by_mark m p None false = refl
by_mark m p (Some d) false = refl

pub deltas_are : (m : ℕ) (trace : List Placed) (ds : List (Option ℤ)) (marks : List Bool) (old new : List ℤ) → AreAllSet m trace ds
    → AreRepeated trace marks → old ≡ map or_zero ds → IsZeroWhere marks old new → AreDeltas m trace new
deltas_are m trace ds marks old new known repeated olds zeros =
    let many : length old ≡ length ds = ap length olds ∙ length-map ds or_zero in (
      zeros.0 ∙ many ∙ known.0,
      λ k d l.
          let p = get_or trace k d in
          let few = known.0 in
          let at : get_or old k (pos 0) ≡ or_zero (get_or ds k None) = ap (λ xs. get_or xs k (pos 0)) olds
          ∙ get_or-map or_zero ds k None (pos 0) (omega (arith, few, l)) in
          let clock : option_map (clock_with m p) (get_or ds k None) ≡ clock_of m trace p = sym (with_at m trace ds k d known.0) ∙ known.1.1 k d l in
          ap (λ z. shifted m z p) (zeros.1 k (omega (arith, few, many, l)) ∙ (λ j. if repeated.1 k d l j then pos 0 else at j))
          ∙ by_mark m p (get_or ds k None) (list_any (has_id p.span.id) (take k trace))
          ∙ ap (λ c. if list_any (has_id p.span.id) (take k trace) then unadjusted p else shifted_by m p c) clock,
    )

pub zero_in : (ks : List (Option KnownDelta)) → map delta_or_zero ks ≡ map or_zero (deltas_in ks)
zero_in [] = refl
zero_in (o ∷ ks) = ap (λ r. delta_or_zero o ∷ r) (zero_in ks)

-- ---- the spans moved by their deltas are what is shown
next_delta : (ds : List ℤ) (i : ℕ) → get_or (drop 1 ds) i (pos 0) ≡ get_or ds (suc i) (pos 0)
next_delta [] i = refl
next_delta (d ∷ ds) i = refl

all_after : (m : ℕ) (all before rest : List Placed) (ds : List ℤ) → ((k : ℕ) (d : Placed) → k < length rest
    → shifted m (get_or ds k (pos 0)) (get_or rest k d) ≡ shown_after m all (before ++ take k rest) (get_or rest k d))
    → shifted_all m ds rest ≡ skew_adjusted_after m all before rest
all_after m all before [] ds are = refl
all_after m all before (p ∷ rest) ds are =
    let first : shifted m (get_or ds 0 (pos 0)) p ≡ shown_after m all before p =
    are 0 p (omega arith) ∙ ap (λ b. shown_after m all b p) (append-nil before) in
    let others = all_after m all (before ++ p ∷ []) rest (drop 1 ds) (λ k d l.
    ap (λ e. shifted m e (get_or rest k d)) (next_delta ds k) ∙ are (suc k) d (omega arith)
    ∙ ap (λ b. shown_after m all b (get_or rest k d)) (sym (append_assoc before (p ∷ []) (take k rest)))) in
    (λ j. first j ∷ others j)

pub all_moved : (m : ℕ) (ps : List Placed) (ds : List ℤ) → AreDeltas m ps ds → shifted_all m ds ps ≡ skew_adjusted m ps
all_moved m ps ds are = all_after m ps [] ps ds are.1

-- ---- if no span moves
abbrev pub all_zero : List ℤ → Bool
all_zero ds = list_all (λ (d : ℤ). int_eq d (pos 0)) ds

no_delta : (d : ℤ) (ds : List ℤ) → all_zero (d ∷ ds) ≡ true → (int_eq d (pos 0) ≡ true) × (all_zero ds ≡ true)
no_delta d ds e = and_parts (int_eq d (pos 0)) (all_zero ds) e

-- a delta that isn't 0
abbrev shifted_else : ℕ → ℤ → Placed → Shown
shifted_else m d p =
    if not (nat_le (nat_abs d) m) then warned p (past_limit d m)
    else if not (all_fit d p.span) then warned p (past_times d)
    else warned (moved_placed d p) (adjusted_by d)

still : (m : ℕ) (d : ℤ) (p : Placed) → int_eq d (pos 0) ≡ true → unadjusted p ≡ shifted m d p
still m d p e = sym (ap (λ b. if b then unadjusted p else shifted_else m d p) e)

pub none_moves : (m : ℕ) (ds : List ℤ) (ps : List Placed) → all_zero ds ≡ true → shifted_all m [] ps ≡ shifted_all m ds ps
none_moves m ds [] e = refl
none_moves m [] (p ∷ ps) e = refl
none_moves m (d ∷ ds) (p ∷ ps) e =
    let zero_now = no_delta d ds e in
    (λ j. still m d p zero_now.0 j ∷ none_moves m ds ps zero_now.1 j)

-- ---- spans that are borrowed unchanged
pub lent_raw : (m : ℕ) (ps : List Placed) → shifted_all m [] (map (placed_as true) ps) ≡ map unadjusted ps
lent_raw m [] = refl
lent_raw m (p ∷ ps) = ap (λ r. unadjusted p ∷ r) (lent_raw m ps)

-- ---- one of the spans
pub length_shifted : (m : ℕ) (ds : List ℤ) (ps : List Placed) → length (shifted_all m ds ps) ≡ length ps
length_shifted m ds [] = refl
length_shifted m ds (p ∷ ps) = omega (arith, length_shifted m (drop 1 ds) ps)

pub shifted_at : (m : ℕ) (ds : List ℤ) (ps : List Placed) (i : ℕ) (p : Placed) → i < length ps → p ≡ get_or ps i p
    → slice_get (shifted_all m ds ps) i ≡ Some (shifted m (get_or ds i (pos 0)) p)
shifted_at m ds [] i p h is = absurd (omega (arith, h))
shifted_at m ds (q ∷ ps) zero p h is = ap (λ r. Some (shifted m (get_or ds 0 (pos 0)) r)) (sym is)
shifted_at m ds (q ∷ ps) (suc i) p h is = shifted_at m (drop 1 ds) ps i p (omega (arith, h)) is ∙ ap (λ d. Some (shifted m d p)) (next_delta ds i)
