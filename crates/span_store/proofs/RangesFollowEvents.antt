-- The ranges of the places follow the events.
use Rattle.std.proofs.Common.{◌≡◌, ℕ, ℤ, zero, suc, ◌+◌, ◌<◌, Bool, true, false, cond, List, [], ◌∷◌, ◌++◌, length, drop, refl, sym, ap, subst, ◌∙◌, arith, inl}
use Rattle.std.proofs.Common.{inr, Some, None, length-append, length-drop}
use Rattle.std.specs.Prelude.{Option, ◌⊎◌, int_lt, not, is_some, option_to_list, slice_get, if◌then◌else◌}
use Rattle.std.specs.List.{AllByRecursion}
use Rattle.std.proofs.lemmas.Bool.{false≢true}
use Rattle.std.proofs.lemmas.Int.{ints}
use Rattle.std.proofs.lemmas.Option.{slice_get_within}
use Rattle.jaeger_model.specs.declared.ids.TraceId.{TraceId}
use Rattle.jaeger_model.specs.declared.placed.Placed.{Placed}
use Rattle.jaeger_model.specs.declared.batch.Batch.{Batch}
use Rattle.jaeger_model.specs.Parents.{same_trace}
use Rattle.trace_model.specs.declared.entry.Entry.{Entry}
use Rattle.trace_model.specs.declared.entry.Work.TheVariants as brings
use Rattle.trace_model.specs.Events.{Event, came, limited}
use Rattle.trace_model.specs.Rings.{holds, newest}
use Rattle.trace_model.specs.ShownSpans.{trace_of, ring, of_trace, spans_of_trace}
use Rattle.trace_model.proofs.Lists.{each_append}
use Rattle.trace_model.proofs.ShownOfTrace.{same_is, spans_gone, spans_limited, spans_push}
use Rattle.trace_ring.specs.declared.ring.Evicted.{Evicted}
use Rattle.trace_ring.specs.RingValues.{NoneTwice, evicted_trace, opened_by}
use Rattle.trace_assembly.specs.declared.spot.Spot.{Spot}
use Rattle.trace_assembly.specs.AssembledRows.{Assembled}
use Rattle.trace_assembly.specs.LocatedSpans.{located_by, located_events, located_upto, events_in, shown_spots}
use Rattle.trace_assembly.proofs.SpotEvents.{events-push}
use Rattle.trace_assembly.proofs.LocatedEvents.{events-located, located_push_law, upto_none, upto_all}
use Rattle.trace_ring.specs.declared.first_starts.ranges.Range.{Range}
use Rattle.trace_ring.specs.FirstStarts.{Starts}
use Rattle.trace_ring.specs.StartRanges.{IsIn, IsWider, range_at}
use Rattle.journal_traces.specs.TraceRanges.{AreRanged, StartsIn}
use Rattle.journal_traces.specs.SpansAtSpots.{trace_named}
use Rattle.journal_traces.proofs.TraceMarks.{held}
use Rattle.span_store.specs.ShownStarts.{IsRanged}
use Rattle.span_store.proofs.RingFollowsEvents.{trace_stands}

-- ---- wider ranges
behind : (a b c : ℤ) → int_lt a b ≡ false → int_lt b c ≡ false → int_lt a c ≡ false
behind a b c p q = grind (arith, ints)

each_wider : (r s : Range) → IsWider r s → (ps : List Placed) → AllByRecursion (StartsIn r) ps → AllByRecursion (StartsIn s) ps
each_wider r s w [] all = tt
each_wider r s w (p ∷ ps) all = (
  record { begun = behind p.span.start r.earliest s.earliest all.0.begun w.begins; lasting = behind s.latest r.latest p.span.start w.ends all.0.lasting },
  each_wider r s w ps all.1,
)

-- ---- places in a ring
pub one_place : (r : List TraceId) (i j : ℕ) (t : TraceId) → NoneTwice r → slice_get r i ≡ Some t → slice_get r j ≡ Some t → i ≡ j
one_place [] i j t once a b = absurd cc
one_place (x ∷ xs) zero zero t once a b = refl
one_place (x ∷ xs) zero (suc j) t once a b = let same : x ≡ t = cc a in absurd (false≢true (sym once.0 ∙ ap (holds xs) same ∙ held xs j t b))
one_place (x ∷ xs) (suc i) zero t once a b = let same : x ≡ t = cc b in absurd (false≢true (sym once.0 ∙ ap (holds xs) same ∙ held xs i t a))
one_place (x ∷ xs) (suc i) (suc j) t once a b = ap suc (one_place xs i j t once.1 a b)

-- a trace of the ring was in it before, or is the one that was opened
in_opened : (ids : List TraceId) (t u : TraceId) (j : ℕ) → slice_get (ids ++ t ∷ []) j ≡ Some u → (slice_get ids j ≡ Some u) ⊎ (u ≡ t)
in_opened [] t u zero e = let same : t ≡ u = cc e in inr (sym same)
in_opened [] t u (suc j) e = absurd cc
in_opened (x ∷ xs) t u zero e = inl e
in_opened (x ∷ xs) t u (suc j) e = in_opened xs t u j e

place_before : (opened new : List TraceId) (left : Option Evicted) (k : ℕ) (u : TraceId) → opened ≡ option_to_list (evicted_trace left) ++ new
    → slice_get new k ≡ Some u
    → slice_get opened (if is_some left then k + 1 else k) ≡ Some u
place_before opened new None k u split at = ap (λ r. slice_get r k) split ∙ at
place_before opened new (Some gone) k u split at =
    let one : k + 1 ≡ suc k = omega arith in
    (λ i. slice_get (split i) (one i)) ∙ at

-- ---- as many starts as traces
opened_length : (ids : List TraceId) (t : TraceId) (starts : List ℤ) (start : ℤ) → length starts ≡ length ids
    → length (if not (holds ids t) then starts ++ start ∷ [] else starts) ≡ length (opened_by ids t)
opened_length ids t starts start same =
    elim (holds ids t) as (λ b. length (if not b then starts ++ start ∷ [] else starts) ≡ length (if b then ids else ids ++ t ∷ [])) [
      | true ↦ same
      | false ↦ length-append starts (start ∷ []) ∙ ap (λ n. n + 1) same ∙ sym (length-append ids (t ∷ []))
    ]

left_length : (opened new : List TraceId) (left : Option Evicted) (starts : List ℤ) → length starts ≡ length opened
    → opened ≡ option_to_list (evicted_trace left) ++ new
    → length (if is_some left then drop 1 starts else starts) ≡ length new
left_length opened new None starts same split = same ∙ ap (λ (l : List TraceId). length l) split
left_length opened new (Some gone) starts same split =
    let all : length starts ≡ suc (length new) = same ∙ ap (λ (l : List TraceId). length l) split in
    omega (arith, length-drop 1 starts)

pub counted_came : (ids new : List TraceId) (t : TraceId) (opened : Bool) (left : Option Evicted) (start : ℤ) (starts mid after : List ℤ)
    → length starts ≡ length ids
    → opened ≡ not (holds ids t) → opened_by ids t ≡ option_to_list (evicted_trace left) ++ new
    → mid ≡ (if opened then starts ++ start ∷ [] else starts) → after ≡ (if is_some left then drop 1 mid else mid) → length after ≡ length new
counted_came ids new t opened left start starts mid after same is split pushed dropped =
    ap (λ (l : List ℤ). length l) dropped
    ∙ left_length (opened_by ids t) new left mid
    (ap (λ (l : List ℤ). length l) (pushed ∙ ap (λ b. if b then starts ++ start ∷ [] else starts) is) ∙ opened_length ids t starts start same) split

pub some_pushed : (opened : Bool) (starts : List ℤ) (start : ℤ) (mid : List ℤ) → mid ≡ (if opened then starts ++ start ∷ [] else starts) → 0 < length starts
    → 0 < length mid
some_pushed true starts start mid is some = omega (arith, ap (λ (l : List ℤ). length l) is, length-append starts (start ∷ []))
some_pushed false starts start mid is some = omega (arith, ap (λ (l : List ℤ). length l) is)

-- ---- a span arrives
-- what the arrival of a span with this start does to the ranges of a ring: they are widened, those of all but the
-- trace that left move by one place, and that of the span's trace has the start
pub record Ranges (ids new : List TraceId) (t : TraceId) (left : Option Evicted) (start : ℤ) (before opened dropped after : Starts) : Type 0 where
  pub split : opened_by ids t ≡ option_to_list (evicted_trace left) ++ new
  pub as_many : length before.starts ≡ length ids
  pub some : 0 < length before.starts → 0 < length opened.starts
  pub wider : (k : ℕ) → k < length before.starts → IsWider (range_at before k) (range_at opened k)
  pub moved : 0 < length opened.starts → (k : ℕ) → range_at dropped k ≡ range_at opened (if is_some left then k + 1 else k)
  pub still : length dropped.starts ≡ length new
  pub wider_still : (k : ℕ) → k < length dropped.starts → IsWider (range_at dropped k) (range_at after k)
  pub own : (k : ℕ) → slice_get new k ≡ Some t → IsIn (range_at after k) start

module _ (ids new : List TraceId) (t : TraceId) (left : Option Evicted) (start : ℤ) (before opened dropped after : Starts)
    (c : Ranges ids new t left start before opened dropped after) where
  -- the spans of a trace that was in the ring
  kept : (k j : ℕ) (u : TraceId) → slice_get new k ≡ Some u → j ≡ (if is_some left then k + 1 else k) → slice_get ids j ≡ Some u
      → (ps : List Placed) → AllByRecursion (StartsIn (range_at before j)) ps → AllByRecursion (StartsIn (range_at after k)) ps
  kept k j u at is there ps all =
      let within : k < length new = slice_get_within new k u at in
      let old : j < length ids = slice_get_within ids j u there in
      let many = c.as_many in
      let still = c.still in
      let here : j < length before.starts = omega arith in
      let some : 0 < length before.starts = omega arith in
      let same : range_at opened j ≡ range_at dropped k = ap (range_at opened) is ∙ sym (c.moved (c.some some) k) in
      each_wider (range_at dropped k) (range_at after k) (c.wider_still k (omega arith)) ps
      (subst (λ r. AllByRecursion (StartsIn r) ps) same (each_wider (range_at before j) (range_at opened j) (c.wider j here) ps all))

  -- those of any trace, of which one that was opened has none
  all_kept : (spans : TraceId → List Placed) → AreRanged before ids spans → (holds ids t ≡ false → spans t ≡ []) → (k : ℕ) (u : TraceId)
      → slice_get new k ≡ Some u
      → AllByRecursion (StartsIn (range_at after k)) (spans u)
  all_kept spans ranged none k u at = by (holds ids t) refl
    where
      j : ℕ
      j = if is_some left then k + 1 else k

      there : slice_get (opened_by ids t) j ≡ Some u
      there = place_before (opened_by ids t) new left k u c.split at

      by : (b : Bool) → holds ids t ≡ b → AllByRecursion (StartsIn (range_at after k)) (spans u)
      by true e =
          let old : slice_get ids j ≡ Some u = ap (λ b. slice_get (if b then ids else ids ++ t ∷ []) j) (sym e) ∙ there in
          kept k j u at refl old (spans u) (ranged j u old)
      by false e =
          elim (in_opened ids t u j (ap (λ b. slice_get (if b then ids else ids ++ t ∷ []) j) (sym e) ∙ there)) [
            | inl old ↦ kept k j u at refl old (spans u) (ranged j u old)
            | inr own ↦ subst (AllByRecursion (StartsIn (range_at after k))) (sym (ap spans own ∙ none e)) tt
          ]

  -- the span that arrived is one of its trace
  own_in : (p : Placed) → trace_of p ≡ t → p.span.start ≡ start → (k : ℕ) (u : TraceId) → slice_get new k ≡ Some u
      → AllByRecursion (StartsIn (range_at after k)) (of_trace u (p ∷ []))
  own_in p of is k u at = by (same_trace u (trace_of p)) refl
    where
      by : (b : Bool) → same_trace u (trace_of p) ≡ b → AllByRecursion (StartsIn (range_at after k)) (cond b (p ∷ []) [])
      by true e =
          let same : u ≡ t = same_is u (trace_of p) e ∙ of in
          (subst (IsIn (range_at after k)) (sym is) (c.own k (at ∙ ap Some same)), tt)
      by false e = tt

  pub ranged_came : (n : ℕ) (es : List (Event (Spot × Placed))) (l : Spot × Placed) → ids ≡ ring n (events_in es) → new ≡ ring n (events_in (es ++ came l ∷ []))
      → trace_of l.1 ≡ t → l.1.span.start ≡ start
      → AreRanged before ids (spans_of_trace n (events_in es)) → AreRanged after new (spans_of_trace n (events_in (es ++ came l ∷ [])))
  ranged_came n es l was is of start_is ranged k u at =
      let push = events-push es (came l) in
      let now : new ≡ ring n (events_in es ++ came l.1 ∷ []) = is ∙ ap (ring n) push in
      let there : holds (ring n (events_in es ++ came l.1 ∷ [])) u ≡ true = ap (λ r. holds r u) (sym now) ∙ held new k u at in
      let spans : spans_of_trace n (events_in (es ++ came l ∷ [])) u ≡ spans_of_trace n (events_in es) u ++ of_trace u (l.1 ∷ []) =
      ap (λ xs. spans_of_trace n xs u) push ∙ spans_push n (events_in es) (came l.1) u
      ∙ ap (λ b. if b then spans_of_trace n (events_in es) u ++ of_trace u (l.1 ∷ []) else []) there in
      subst (AllByRecursion (StartsIn (range_at after k))) (sym spans)
      (each_append (StartsIn (range_at after k)) (spans_of_trace n (events_in es) u) (of_trace u (l.1 ∷ []))
      (all_kept (spans_of_trace n (events_in es)) ranged (λ e. spans_gone n (events_in es) t (ap (λ r. holds r t) (sym was) ∙ e)) k u at)
      (own_in l.1 of start_is k u at))

-- ---- traces leave
pub one_fewer : (ids new : List TraceId) (gone : TraceId) (starts after : List ℤ) → length starts ≡ length ids → ids ≡ gone ∷ new → after ≡ drop 1 starts
    → length after ≡ length new
one_fewer ids new gone starts after many is dropped =
    let long : length ids ≡ suc (length new) = ap (λ (l : List TraceId). length l) is in
    let short : length after ≡ length (drop 1 starts) = ap (λ (l : List ℤ). length l) dropped in
    omega (arith, length-drop 1 starts)

pub ranged_dropped : (before after : Starts) (ids new : List TraceId) (gone : TraceId) → ids ≡ gone ∷ new → length before.starts ≡ length ids
    → (0 < length before.starts → (k : ℕ) → range_at after k ≡ range_at before (k + 1)) → (spans : TraceId → List Placed) → AreRanged before ids spans
    → AreRanged after new spans
ranged_dropped before after ids new gone is many moved spans ranged k t at =
    let one : k + 1 ≡ suc k = omega arith in
    let long : length ids ≡ suc (length new) = ap (λ (l : List TraceId). length l) is in
    let there : slice_get ids (k + 1) ≡ Some t = (λ i. slice_get (is i) (one i)) ∙ at in
    subst (λ r. AllByRecursion (StartsIn r) (spans t)) (sym (moved (omega arith) k)) (ranged (k + 1) t there)

pub ranged_limited : (n : ℕ) (h : List Entry) (e : Entry) (m : ℕ) → e.work ≡ brings.TraceLimit m → (shown : Assembled) (starts : Starts)
    → AreRanged starts shown.newest.ids (spans_of_trace n (events_in (located_events h))) → IsRanged n (located_events (h ++ e ∷ [])) shown starts
ranged_limited n h e m set shown starts ranged k t at =
    let es = located_events h in
    let all : located_events (h ++ e ∷ []) ≡ es ++ limited m ∷ [] = located_push_law h e ∙ ap (λ w. es ++ located_by (length h + 1) w) set in
    let spans : spans_of_trace n (events_in (located_events (h ++ e ∷ []))) t
    ≡ (if holds (newest m (ring n (events_in es))) t then spans_of_trace n (events_in es) t else []) =
    ap (λ xs. spans_of_trace n (events_in xs) t) all ∙ ap (λ xs. spans_of_trace n xs t) (events-push es (limited m)) ∙ spans_limited n (events_in es) m t in
    subst (AllByRecursion (StartsIn (range_at starts k))) (sym spans)
    (elim (holds (newest m (ring n (events_in es))) t) as (λ b.
    AllByRecursion (StartsIn (range_at starts k)) (if b then spans_of_trace n (events_in es) t else [])) [
      | true ↦ ranged k t at
      | false ↦ tt
    ])

-- ---- the spans of one batch
pub ranged_none : (n : ℕ) (h : List Entry) (b : Batch) (shown : Assembled) (starts : Starts) → IsRanged n (located_events h) shown starts
    → IsRanged n (located_upto h b 0) shown starts
ranged_none n h b shown starts f = subst (λ es. IsRanged n es shown starts) (sym (upto_none h b)) f

pub ranged_batch : (n : ℕ) (h : List Entry) (e : Entry) (b : Batch) → e.work ≡ brings.Batch b → (shown : Assembled) (starts : Starts)
    → IsRanged n (located_upto h b (length b.spans)) shown starts → IsRanged n (located_events (h ++ e ∷ [])) shown starts
ranged_batch n h e b is shown starts f = subst (λ es. IsRanged n es shown starts) (upto_all h e b is) f

-- ---- the spans at their spots
pub named_ranged : (n : ℕ) (h : List Entry) (spots : TraceId → List Spot) (ids : List TraceId) (starts : Starts)
    → ((t : TraceId) → spots t ≡ shown_spots n (located_events h) t)
    → AreRanged starts ids (spans_of_trace n (events_in (located_events h))) → AreRanged starts ids (trace_named h spots)
named_ranged n h spots ids starts all ranged =
    let stands = trace_stands n h spots all in
    let same : spans_of_trace n (events_in (located_events h)) ≡ trace_named h spots =
    (λ i. spans_of_trace n (events-located h i)) ∙ (λ i t. sym (stands t) i) in
    subst (AreRanged starts ids) same ranged
