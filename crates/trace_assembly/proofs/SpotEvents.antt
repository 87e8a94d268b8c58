-- The spots of each trace as they change with one more event.
use Rattle.std.proofs.Common.{◌≡◌, ℕ, Bool, true, false, ◌||◌, ◌&&◌, cond, List, [], ◌∷◌, ◌++◌, map, refl, sym, ap, ◌∙◌, Some, None}
use Rattle.std.specs.Prelude.{Option, filter, not, IfSome, option_to_list, if◌then◌else◌}
use Rattle.std.proofs.lemmas.Bool.{false≢true, or_parts}
use Rattle.std.proofs.lemmas.List.{append-nil, map-append, map_push}
use Rattle.std.proofs.lemmas.List.Elements.{filter-append}
use Rattle.std.proofs.lemmas.List.Folds.{list_any-append}
use Rattle.jaeger_model.specs.declared.ids.TraceId.{TraceId}
use Rattle.jaeger_model.specs.declared.placed.Placed.{Placed}
use Rattle.jaeger_model.specs.Parents.{same_trace}
use Rattle.trace_model.specs.declared.entry.Entry.{Entry}
use Rattle.trace_model.specs.Events.{Event, came, limited, event_map, without_limits}
use Rattle.trace_model.specs.Histories.{events}
use Rattle.trace_model.specs.Rings.{holds, newest, arrive, LimitedRing, limited_ring}
use Rattle.trace_model.specs.ShownSpans.{trace_of, ring, shown, of_trace, spans_of_trace}
use Rattle.trace_model.proofs.ShownByEvents.{by_pushes, in_ring, in_ring_by, ring_came, ring_limited, limited_ring-mapped, shown_push, shown_by_push}
use Rattle.trace_model.proofs.ShownOfTrace.{same_is, filter_within, spans_gone, arrived}
use Rattle.trace_ring.specs.RingValues.{opened_by}
use Rattle.trace_assembly.specs.declared.spot.Spot.{Spot}
use Rattle.trace_assembly.specs.AssembledRows.{with_spot}
use Rattle.trace_assembly.specs.LocatedSpans.{spans_in, spots_in, located_trace, events_in, shown_in, own_of}
use Rattle.trace_assembly.specs.LocatedSpans.{shown_spots, with_event, without_evicted, located_events}
use Rattle.trace_assembly.specs.LocatedSpans.{span_at, after_eviction, after_arrival, AreShown, ComesIn, Lowers}
use Rattle.trace_assembly.proofs.Lists.{map_filter, map_nil}
use Rattle.trace_assembly.proofs.LocatedEvents.{at_spots, shown-lies, events-located}

abbrev span_of : Spot × Placed → Placed
span_of l = l.1

abbrev spot_of : Spot × Placed → Spot
spot_of l = l.0

-- the ring is that of the spans alone
ring_in : (n : ℕ) (es : List (Event (Spot × Placed))) → (limited_ring located_trace n es).ids ≡ ring n (events_in es)
ring_in n es = sym (ap (λ (r : LimitedRing). r.ids) (limited_ring-mapped trace_of span_of n es))

shown_in-push : (n : ℕ) (es : List (Event (Spot × Placed))) (e : Event (Spot × Placed))
    → shown_in n (es ++ e ∷ []) ≡ in_ring_by located_trace (ring n (events_in (es ++ e ∷ []))) (shown_in n es ++ without_limits (e ∷ []))
shown_in-push n es e =
    shown_by_push located_trace n es e ∙ ap (λ r. in_ring_by located_trace r (shown_in n es ++ without_limits (e ∷ []))) (ring_in n (es ++ e ∷ []))

spots_of_own : (t : TraceId) (ls : List (Spot × Placed)) (l : Spot × Placed)
    → spots_in (own_of t (ls ++ l ∷ [])) ≡ (if same_trace t (trace_of l.1) then spots_in (own_of t ls) ++ l.0 ∷ [] else spots_in (own_of t ls))
spots_of_own t ls l =
    ap spots_in (filter-append (λ (k : Spot × Placed). same_trace t (trace_of k.1)) ls (l ∷ []))
    ∙ map-append spot_of (own_of t ls) (own_of t (l ∷ []))
    ∙ elim (same_trace t (trace_of l.1)) as (λ s. spots_in (own_of t ls) ++ spots_in (cond s (l ∷ []) [])
    ≡ (if s then spots_in (own_of t ls) ++ l.0 ∷ [] else spots_in (own_of t ls))) [
      | true ↦ refl
      | false ↦ append-nil (spots_in (own_of t ls))
    ]

spots_of_event : (t : TraceId) (ls : List (Spot × Placed)) (e : Event (Spot × Placed))
    → spots_in (own_of t (ls ++ without_limits (e ∷ []))) ≡ with_event e (λ u. spots_in (own_of u ls)) t
spots_of_event t ls (came l) = spots_of_own t ls l
spots_of_event t ls (limited m) = ap (λ k. spots_in (own_of t k)) (append-nil ls)

-- after an event a trace in the ring keeps its spots and gains that of its own new span, and any other one has none
pub shown_spots_push_law : (n : ℕ) (es : List (Event (Spot × Placed))) (e : Event (Spot × Placed)) (t : TraceId)
    → shown_spots n (es ++ e ∷ []) t ≡ (if holds (ring n (events_in (es ++ e ∷ []))) t then with_event e (shown_spots n es) t else [])
shown_spots_push_law n es e t =
    let r = ring n (events_in (es ++ e ∷ [])) in
    ap (λ k. spots_in (own_of t k)) (shown_in-push n es e)
    ∙ ap spots_in (filter_within (λ (k : Spot × Placed). same_trace t (trace_of k.1)) (λ (k : Spot × Placed). holds r (trace_of k.1)) (holds r t)
    (λ k e. ap (holds r) (sym (same_is t (trace_of k.1) e))) (shown_in n es ++ without_limits (e ∷ [])))
    ∙ elim (holds r t) as (λ b. spots_in (if b then own_of t (shown_in n es ++ without_limits (e ∷ [])) else [])
    ≡ (if b then with_event e (shown_spots n es) t else [])) [
      | true ↦ spots_of_event t (shown_in n es) e
      | false ↦ refl
    ]

pub events-push : (es : List (Event (Spot × Placed))) (e : Event (Spot × Placed)) → events_in (es ++ e ∷ []) ≡ events_in es ++ event_map span_of e ∷ []
events-push es e = map_push (event_map span_of) es e

spans_of_event : (e : Event (Spot × Placed)) → spans_in (without_limits (e ∷ [])) ≡ without_limits (event_map span_of e ∷ [])
spans_of_event (came l) = refl
spans_of_event (limited m) = refl

-- the located spans that are shown are the shown spans
pub spans-shown_in : (n : ℕ) (es : List (Event (Spot × Placed))) → spans_in (shown_in n es) ≡ shown n (events_in es)
spans-shown_in n = by_pushes (λ es. spans_in (shown_in n es) ≡ shown n (events_in es)) refl (λ es e old.
    let stands : Placed → Bool = λ p. holds (ring n (events_in (es ++ e ∷ []))) (trace_of p) in
    let now = event_map span_of e in
    ap spans_in (shown_in-push n es e)
    ∙ map_filter span_of stands (shown_in n es ++ without_limits (e ∷ []))
    ∙ ap (filter stands) (map-append span_of (shown_in n es) (without_limits (e ∷ [])) ∙ (λ i. old i ++ spans_of_event e i))
    ∙ ap (λ ps. in_ring (ring n ps) (shown n (events_in es) ++ without_limits (now ∷ []))) (events-push es e)
    ∙ sym (shown_push n (events_in es) now) ∙ ap (shown n) (sym (events-push es e)))

spans-own : (n : ℕ) (es : List (Event (Spot × Placed))) (t : TraceId) → spans_in (own_of t (shown_in n es)) ≡ spans_of_trace n (events_in es) t
spans-own n es t = map_filter span_of (λ p. same_trace t (trace_of p)) (shown_in n es) ∙ ap (of_trace t) (spans-shown_in n es)

-- the spans at a trace's shown spots are its shown spans
pub spans_at_shown_law : (n : ℕ) (h : List Entry) (t : TraceId)
    → map (span_at h) (shown_spots n (located_events h) t) ≡ map (λ p. Some p) (spans_of_trace n (events h) t)
spans_at_shown_law n h t =
    at_spots h (own_of t (shown_in n (located_events h))) (shown-lies h n t)
    ∙ ap (map (λ p. Some p)) (spans-own n (located_events h) t ∙ ap (λ es. spans_of_trace n es t) (events-located h))

-- a trace that isn't in the ring has no spots
pub shown_spots-gone : (n : ℕ) (es : List (Event (Spot × Placed))) (t : TraceId) → holds (ring n (events_in es)) t ≡ false → shown_spots n es t ≡ []
shown_spots-gone n es t gone = ap spots_in (map_nil span_of (own_of t (shown_in n es)) (spans-own n es t ∙ spans_gone n (events_in es) t gone))

-- ---- spots that are added and removed as the ring says are those of the shown spans
before_too : (r : List TraceId) (t u : TraceId) → holds (opened_by r t) u ≡ false → holds r u ≡ false
before_too r t u e = elim (holds r t) as (λ b. holds (if b then r else r ++ t ∷ []) u ≡ false → holds r u ≡ false) [
  | true ↦ λ e. e
  | false ↦ λ e. (or_parts (holds r u) (holds (t ∷ []) u) (sym (list_any-append (same_trace u) r (t ∷ [])) ∙ e)).0
] e

kept : (left : Option TraceId) (r : List TraceId) (spots : TraceId → List Spot) (t : TraceId) → IfSome left (λ gone. holds r gone ≡ false) → holds r t ≡ true
    → after_eviction left spots t ≡ spots t
kept None r spots t out held = refl
kept (Some gone) r spots t out held = elim (same_trace t gone) as (λ s. same_trace t gone ≡ s → (if s then [] else spots t) ≡ spots t) [
  | true ↦ λ same. absurd (false≢true (sym out ∙ ap (holds r) (sym (same_is t gone same)) ∙ held))
  | false ↦ λ _. refl
] refl

-- the trace isn't in the ring after an arrival, so it had no spots or is the one that left
gone : (left : Option TraceId) (old r : List TraceId) (spots : TraceId → List Spot) (t : TraceId) → old ≡ option_to_list left ++ r → holds r t ≡ false
    → (holds old t ≡ false → spots t ≡ []) → after_eviction left spots t ≡ []
gone None old r spots t split out none = none (ap (λ x. holds x t) split ∙ out)
gone (Some g) old r spots t split out none = elim (same_trace t g) as (λ s. same_trace t g ≡ s → (if s then [] else spots t) ≡ []) [
  | true ↦ λ _. refl
  | false ↦ λ other. none (ap (λ x. holds x t) split ∙ ap (λ b. b || holds r t) other ∙ out)
] refl

pub comes_in_law : (n limit : ℕ) (es : List (Event (Spot × Placed))) (l : Spot × Placed) (left : Option TraceId) (old new : List TraceId)
    (spots : TraceId → List Spot)
    → ComesIn n limit es l left old new → AreShown n es spots → AreShown n (es ++ came l ∷ []) (after_arrival l left spots)
comes_in_law n limit es l left old new spots comes same t =
    let now : new ≡ ring n (events_in (es ++ came l ∷ [])) =
    comes.after ∙ (λ i. arrive (comes.limit_is i) (comes.before i) (trace_of l.1)) ∙ sym (ring_came n (events_in es) l.1)
    ∙ ap (ring n) (sym (events-push es (came l))) in
    let own : holds new (trace_of l.1) ≡ true = ap (λ r. holds r (trace_of l.1)) comes.after ∙ arrived limit old (trace_of l.1) in
    elim (holds new t) as (λ b. holds new t ≡ b → after_arrival l left spots t ≡ (if b then with_spot (trace_of l.1) l.0 (shown_spots n es) t else [])) [
      | true ↦ λ held. ap (λ k. if same_trace t (trace_of l.1) then k ++ l.0 ∷ [] else k) (kept left new spots t comes.not_held held ∙ same t)
      | false ↦ λ lost.
          let none : after_eviction left spots t ≡ [] =
          gone left (opened_by old (trace_of l.1)) new spots t comes.split lost
          (λ e. same t ∙ shown_spots-gone n es t (ap (λ r. holds r t) (sym comes.before) ∙ before_too old (trace_of l.1) t e)) in
          elim (same_trace t (trace_of l.1)) as (λ s. same_trace t (trace_of l.1) ≡ s
          → (if s then after_eviction left spots t ++ l.0 ∷ [] else after_eviction left spots t) ≡ []) [
            | true ↦ λ e. absurd (false≢true (sym lost ∙ ap (holds new) (same_is t (trace_of l.1) e) ∙ own))
            | false ↦ λ _. none
          ] refl
    ] refl
    ∙ ap (λ r. if holds r t then with_spot (trace_of l.1) l.0 (shown_spots n es) t else []) now
    ∙ sym (shown_spots_push_law n es (came l) t)

-- if the spots of each trace are those of its shown spans, they still are after the spots of the traces that leave
-- at a limit are removed
pub lowers_law : (n m : ℕ) (es : List (Event (Spot × Placed))) (old new : List TraceId) (spots : TraceId → List Spot)
    → Lowers n m es old new → AreShown n es spots → AreShown n (es ++ limited m ∷ []) (without_evicted old new spots)
lowers_law n m es old new spots lowers same t =
    let now : new ≡ ring n (events_in (es ++ limited m ∷ [])) =
    lowers.after ∙ ap (newest m) lowers.before ∙ sym (ring_limited n (events_in es) m) ∙ ap (ring n) (sym (events-push es (limited m))) in
    elim (holds new t) as (λ b. (if holds old t && not b then [] else spots t) ≡ (if b then shown_spots n es t else [])) [
      | true ↦ elim (holds old t) as (λ a. (if a && false then [] else spots t) ≡ shown_spots n es t) [ true ↦ same t | false ↦ same t ]
      | false ↦ elim (holds old t) as (λ a. holds old t ≡ a → (if a && true then [] else spots t) ≡ []) [
        | true ↦ λ _. refl
        | false ↦
            λ e. same t ∙ shown_spots-gone n es t (ap (λ r. holds r t) (sym lowers.before) ∙ e)
      ] refl
    ]
    ∙ ap (λ r. if holds r t then shown_spots n es t else []) now
    ∙ sym (shown_spots_push_law n es (limited m) t)
