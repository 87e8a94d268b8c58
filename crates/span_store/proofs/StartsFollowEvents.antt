-- The first starts follow the events.
use Rattle.std.proofs.Common.{◌≡◌, ℕ, ℤ, ◌+◌, ◌<◌, Bool, true, false, List, [], ◌∷◌, ◌++◌, map, drop, length, get_or, Some, None, refl, sym, ap, subst, ◌∙◌}
use Rattle.std.proofs.Common.{arith}
use Rattle.std.specs.Prelude.{Option, not, is_some, option_to_list, if◌then◌else◌}
use Rattle.std.proofs.lemmas.Bool.{false≢true}
use Rattle.std.proofs.lemmas.List.{map_push}
use Rattle.std.proofs.lemmas.List.Elements.{All-from_get_or}
use Rattle.std.proofs.lemmas.List.Folds.{list_any_at}
use Rattle.std.proofs.lemmas.Simd.{map-map}
use Rattle.jaeger_model.specs.declared.ids.TraceId.{TraceId}
use Rattle.jaeger_model.specs.declared.placed.Placed.{Placed}
use Rattle.jaeger_model.specs.declared.batch.Batch.{Batch}
use Rattle.jaeger_model.specs.declared.span.Span.{Span}
use Rattle.jaeger_model.specs.Parents.{same_trace, placed, needs_no_reference, parent_reference}
use Rattle.journal_traces.proofs.SpansAtSpots.{no_id}
use Rattle.trace_model.specs.declared.entry.Entry.{Entry}
use Rattle.trace_model.specs.declared.entry.Work.TheVariants as brings
use Rattle.trace_model.specs.Events.{Event, came, limited}
use Rattle.trace_model.specs.Rings.{holds, newest}
use Rattle.trace_model.specs.Searching.{first_start, traces}
use Rattle.trace_model.specs.ShownSpans.{trace_of, ring, limit_after, of_trace, spans_of_trace}
use Rattle.trace_model.proofs.Lists.{map_agree}
use Rattle.trace_model.proofs.ShownByEvents.{ring_came, ring_limited}
use Rattle.trace_model.proofs.ShownOfTrace.{same_is, same_self, spans_push, opened_alone, old_or_own, has_spans, spans_limited}
use Rattle.trace_ring.specs.declared.ring.Evicted.{Evicted}
use Rattle.trace_ring.specs.RingValues.{opened_by, evicted_trace}
use Rattle.trace_assembly.specs.declared.spot.Spot.{Spot}
use Rattle.trace_assembly.specs.LocatedSpans.{located_events, located_by, events_in}
use Rattle.trace_assembly.proofs.SpotEvents.{events-push}
use Rattle.trace_assembly.proofs.LocatedEvents.{located_push_law, upto_none, upto_all}
use Rattle.trace_assembly.specs.LocatedSpans.{located_upto}
use Rattle.span_store.specs.ShownStarts.{AreFirst, first_with}

-- functions that agree on the traces of a ring have the same results on them
agree : (f g : TraceId → ℤ) (r : List TraceId) → ((t : TraceId) → holds r t ≡ true → f t ≡ g t) → map f r ≡ map g r
agree f g r h =
    map_agree f g r (All-from_get_or (λ t. f t ≡ g t) r no_id
    (λ i l. h (get_or r i no_id) (list_any_at (same_trace (get_or r i no_id)) r i no_id l (same_self (get_or r i no_id)))))

-- ---- what an arrival does to the starts of a ring
opened_starts : (ids : List TraceId) (t : TraceId) (start : ℤ) (first : TraceId → ℤ) (starts : List ℤ) → starts ≡ map first ids
    → (if not (holds ids t) then starts ++ start ∷ [] else starts) ≡ map (first_with ids start first) (opened_by ids t)
opened_starts ids t start first starts are = by (holds ids t) refl
  where
    kept : map first ids ≡ map (first_with ids start first) ids
    kept = agree first (first_with ids start first) ids (λ u h. sym (ap (λ b. if b then first u else start) h))

    by : (b : Bool) → holds ids t ≡ b → (if not b then starts ++ start ∷ [] else starts) ≡ map (first_with ids start first) (if b then ids else ids ++ t ∷ [])
    by true e = are ∙ kept
    by false e =
        let own : first_with ids start first t ≡ start = ap (λ b. if b then first t else start) e in
        (λ i. (are ∙ kept) i ++ sym own i ∷ []) ∙ sym (map_push (first_with ids start first) ids t)

dropped : (f : TraceId → ℤ) (left : Option Evicted) (all : List ℤ) (new opened : List TraceId) → all ≡ map f opened
    → opened ≡ option_to_list (evicted_trace left) ++ new
    → (if is_some left then drop 1 all else all) ≡ map f new
dropped f None all new opened are split = are ∙ ap (map f) split
dropped f (Some gone) all new opened are split = ap (drop 1) (are ∙ ap (map f) split)

pub arrived_starts : (ids new : List TraceId) (t : TraceId) (start : ℤ) (opened : Bool) (left : Option Evicted) (starts mid after : List ℤ)
    → opened ≡ not (holds ids t) → opened_by ids t ≡ option_to_list (evicted_trace left) ++ new
    → mid ≡ (if opened then starts ++ start ∷ [] else starts) → after ≡ (if is_some left then drop 1 mid else mid)
    → (first : TraceId → ℤ) → starts ≡ map first ids → after ≡ map (first_with ids start first) new
arrived_starts ids new t start opened left starts mid after is split pushed left_is first are =
    left_is ∙ dropped (first_with ids start first) left mid new (opened_by ids t)
    (pushed ∙ ap (λ b. if b then starts ++ start ∷ [] else starts) is ∙ opened_starts ids t start first starts are) split

-- ---- the first start of a trace that stays
first_stays : (xs ys : List Placed) → 0 < length xs → first_start (xs ++ ys) ≡ first_start xs
first_stays [] ys h = absurd (omega arith)
first_stays (x ∷ xs) ys h = refl

module _ (n : ℕ) (es : List (Event Placed)) where
  abbrev first : TraceId → ℤ
  first t = first_start (spans_of_trace n es t)

  came_first : (p : Placed) (t : TraceId) → holds (ring n (es ++ came p ∷ [])) t ≡ true
      → first_with (ring n es) p.span.start first t ≡ first_start (spans_of_trace n (es ++ came p ∷ []) t)
  came_first p t h = by (holds (ring n es) t) refl
    where
      after : List (Event Placed)
      after = es ++ came p ∷ []

      by : (b : Bool) → holds (ring n es) t ≡ b → (if b then first t else p.span.start) ≡ first_start (spans_of_trace n after t)
      by true e =
          sym (ap first_start (spans_push n es (came p) t ∙ ap (λ b. if b then spans_of_trace n es t ++ of_trace t (p ∷ []) else []) h)
          ∙ first_stays (spans_of_trace n es t) (of_trace t (p ∷ [])) (has_spans n t es e))
      by false e =
          old_or_own (limit_after n es) (ring n es) (trace_of p) t (ap (λ r. holds r t) (sym (ring_came n es p)) ∙ h)
          (λ old. absurd (false≢true (sym e ∙ old)))
          (λ own.
          let is : t ≡ trace_of p = same_is t (trace_of p) own in
          sym (ap (λ u. first_start (spans_of_trace n after u)) is ∙ ap first_start (opened_alone n es p (ap (holds (ring n es)) (sym is) ∙ e))))

  limited_first : (m : ℕ) (t : TraceId) → holds (ring n (es ++ limited m ∷ [])) t ≡ true → first t ≡ first_start (spans_of_trace n (es ++ limited m ∷ []) t)
  limited_first m t h =
      sym (ap first_start (spans_limited n es m t ∙ ap (λ b. if b then spans_of_trace n es t else []) (ap (λ r. holds r t) (sym (ring_limited n es m)) ∙ h)))

  -- the starts by what each trace of the ring has
  first_of : map first_start (traces n es) ≡ map first (ring n es)
  first_of = map-map first_start (spans_of_trace n es) (ring n es)

  pub first_came : (p : Placed) (start : ℤ) (ids new : List TraceId) (starts after : List ℤ) → p.span.start ≡ start → ids ≡ ring n es
      → new ≡ ring n (es ++ came p ∷ [])
      → ((f : TraceId → ℤ) → starts ≡ map f ids → after ≡ map (first_with ids start f) new) → starts ≡ map first_start (traces n es)
      → after ≡ map first_start (traces n (es ++ came p ∷ []))
  first_came p start ids new starts after own before now step are =
      step first (are ∙ first_of ∙ ap (map first) (sym before))
      ∙ (λ i. map (first_with (before i) (sym own i) first) (now i))
      ∙ agree (first_with (ring n es) p.span.start first)
      (λ t. first_start (spans_of_trace n (es ++ came p ∷ []) t)) (ring n (es ++ came p ∷ [])) (came_first p)
      ∙ sym (map-map first_start (spans_of_trace n (es ++ came p ∷ [])) (ring n (es ++ came p ∷ [])))

  pub first_limited : (m : ℕ) (ids new : List TraceId) (starts after : List ℤ) → ids ≡ ring n es → new ≡ ring n (es ++ limited m ∷ [])
      → ((f : TraceId → ℤ) → starts ≡ map f ids → after ≡ map f new) → starts ≡ map first_start (traces n es)
      → after ≡ map first_start (traces n (es ++ limited m ∷ []))
  first_limited m ids new starts after before now step are =
      step first (are ∙ first_of ∙ ap (map first) (sym before))
      ∙ ap (map first) now
      ∙ agree first (λ t. first_start (spans_of_trace n (es ++ limited m ∷ []) t)) (ring n (es ++ limited m ∷ [])) (limited_first m)
      ∙ sym (map-map first_start (spans_of_trace n (es ++ limited m ∷ [])) (ring n (es ++ limited m ∷ [])))

-- ---- the same for spans with spots
pub starts_came : (n : ℕ) (es : List (Event (Spot × Placed))) (l : Spot × Placed) (start : ℤ) (ids new : List TraceId) (starts after : List ℤ)
    → l.1.span.start ≡ start
    → ids ≡ ring n (events_in es) → new ≡ ring n (events_in (es ++ came l ∷ []))
    → ((f : TraceId → ℤ) → starts ≡ map f ids → after ≡ map (first_with ids start f) new)
    → AreFirst n es starts → AreFirst n (es ++ came l ∷ []) after
starts_came n es l start ids new starts after own before now step are =
    let push = events-push es (came l) in
    first_came n (events_in es) l.1 start ids new starts after own before (now ∙ ap (ring n) push) step are
    ∙ ap (λ xs. map first_start (traces n xs)) (sym push)

pub starts_limited : (n : ℕ) (h : List Entry) (e : Entry) (m : ℕ) → e.work ≡ brings.TraceLimit m → (ids new : List TraceId) (starts after : List ℤ)
    → ids ≡ ring n (events_in (located_events h)) → new ≡ newest m ids → ((f : TraceId → ℤ) → starts ≡ map f ids → after ≡ map f new)
    → AreFirst n (located_events h) starts → AreFirst n (located_events (h ++ e ∷ [])) after
starts_limited n h e m set ids new starts after before lowered step are =
    let es = located_events h in
    let push = events-push es (limited m) in
    let all : located_events (h ++ e ∷ []) ≡ es ++ limited m ∷ [] = located_push_law h e ∙ ap (λ w. es ++ located_by (length h + 1) w) set in
    first_limited n (events_in es) m ids new starts after before (lowered ∙ ap (newest m) before ∙ sym (ring_limited n (events_in es) m)) step are
    ∙ ap (λ xs. map first_start (traces n xs)) (sym push) ∙ ap (λ xs. map first_start (traces n (events_in xs))) (sym all)

-- ---- a span keeps its start in the store
pub start_stays : (b : Batch) (s : Span) → (placed b s).span.start ≡ s.start
start_stays b s =
    elim (needs_no_reference s) as (λ c. (if c then s else record s { references = parent_reference s ∷ s.references }).start ≡ s.start) [
      | true ↦ refl
      | false ↦
          refl
    ]

-- ---- the spans of one batch
pub first_none : (n : ℕ) (h : List Entry) (b : Batch) (starts : List ℤ) → AreFirst n (located_events h) starts → AreFirst n (located_upto h b 0) starts
first_none n h b starts f = subst (λ es. AreFirst n es starts) (sym (upto_none h b)) f

pub first_batch : (n : ℕ) (h : List Entry) (e : Entry) (b : Batch) → e.work ≡ brings.Batch b → (starts : List ℤ)
    → AreFirst n (located_upto h b (length b.spans)) starts → AreFirst n (located_events (h ++ e ∷ [])) starts
first_batch n h e b is starts f = subst (λ es. AreFirst n es starts) (upto_all h e b is) f
