-- Ring and spots follow the events.
use Rattle.std.proofs.Common.{◌≡◌, ℕ, ◌+◌, ◌<◌, ◌≤◌, false, List, [], ◌∷◌, ◌++◌, map, length, Some, None, refl, sym, ap, subst, ◌∙◌, arith}
use Rattle.std.proofs.lemmas.List.{take_all}
use Rattle.std.specs.Prelude.{Option, option_map, IfSome, option_to_list}
use Rattle.jaeger_model.specs.declared.ids.TraceId.{TraceId}
use Rattle.jaeger_model.specs.declared.placed.Placed.{Placed}
use Rattle.jaeger_model.specs.declared.batch.Batch.{Batch}
use Rattle.jaeger_model.specs.Parents.{placed}
use Rattle.trace_model.specs.declared.entry.Entry.{Entry}
use Rattle.trace_model.specs.declared.entry.Work.TheVariants as brings
use Rattle.trace_model.specs.Events.{Event, came, limited}
use Rattle.trace_model.specs.Rings.{holds, newest, arrive}
use Rattle.trace_model.specs.ShownSpans.{trace_of, ring, limit_after, spans_of_trace, if_any}
use Rattle.trace_model.specs.Histories.{events}
use Rattle.trace_model.specs.declared.answer.Shown.{Shown}
use Rattle.trace_model.proofs.ShownByEvents.{ring_more, ring_fewer, limit_came, limit_limited}
use Rattle.trace_model.proofs.ShownOfTrace.{ring_within, arrive_short}
use Rattle.trace_ring.specs.RingValues.{RingValue, opened_by}
use Rattle.trace_assembly.specs.declared.spot.Spot.{Spot}
use Rattle.trace_assembly.specs.AssembledRows.{with_spot}
use Rattle.trace_assembly.specs.LocatedSpans.{span_at, located_events, located_in, located_by, located_upto, events_in}
use Rattle.trace_assembly.specs.LocatedSpans.{shown_spots, after_eviction, without_evicted}
use Rattle.trace_assembly.proofs.SpotEvents.{events-push, comes_in_law, lowers_law, spans_at_shown_law}
use Rattle.trace_assembly.proofs.LocatedEvents.{located_push_law, upto_none, upto_all}
use Rattle.collected_traces.specs.EntriesAtPlaces.{spans_named}
use Rattle.journal_traces.specs.SpansAtSpots.{trace_named}
use Rattle.journal_traces.proofs.SpansAtSpots.{named_is}
use Rattle.span_store.specs.StoreIndexes.{FollowsEvents, IsRingWithin}

-- the ring of any events is within its limit
pub follows_within : (n : ℕ) (es : List (Event (Spot × Placed))) (newest : RingValue) (spots : TraceId → List Spot) → FollowsEvents n es newest spots
    → IsRingWithin newest
follows_within n es newest spots f some =
    let least = ring_within n (events_in es) (subst (λ k. 0 < k) f.limit some) in
    subst (λ k. length newest.ids ≤ k) (sym f.limit) (subst (λ (r : List TraceId). length r ≤ limit_after n (events_in es)) (sym f.ring) least)

-- and so is one in which a trace has arrived
pub arrived_within : (old new : RingValue) (t : TraceId) → IsRingWithin old → new.limit ≡ old.limit → new.ids ≡ arrive old.limit old.ids t → IsRingWithin new
arrived_within old new t short same is some =
    let most = arrive_short old.limit old.ids t short (subst (λ k. 0 < k) same some) in
    subst (λ k. length new.ids ≤ k) (sym same) (subst (λ (r : List TraceId). length r ≤ old.limit) (sym is) most)

-- one more arrival: its trace enters the ring, the spots of the trace that leaves are removed, the spot is added
pub follows_more : (n : ℕ) (es : List (Event (Spot × Placed))) (spot : Spot) (p : Placed) (own : TraceId) (left : Option TraceId) (old new : RingValue)
    (spots spots' : TraceId → List Spot)
    → FollowsEvents n es old spots → trace_of p ≡ own → new.limit ≡ old.limit → new.ids ≡ arrive old.limit old.ids own
    → opened_by old.ids own ≡ option_to_list left ++ new.ids → IfSome left (λ gone. holds new.ids gone ≡ false)
    → ((t : TraceId) → spots' t ≡ with_spot own spot (after_eviction left spots) t)
    → FollowsEvents n (es ++ came (spot, p) ∷ []) new spots'
follows_more n es spot p own left old new spots spots' f same steady is opened gone changed =
    let is' : new.ids ≡ arrive old.limit old.ids (trace_of p) = is ∙ ap (arrive old.limit old.ids) (sym same) in
    let push = sym (events-push es (came (spot, p))) in
    record {
      limit = steady ∙ f.limit ∙ sym (limit_came n (events_in es) p) ∙ ap (limit_after n) push;
      ring = ring_more n (events_in es) p old.ids new.ids f.ring (is' ∙ ap (λ k. arrive k old.ids (trace_of p)) f.limit) ∙ ap (ring n) push;
      spots = λ t.
          changed t ∙ ap (λ o. with_spot o spot (after_eviction left spots) t) (sym same)
          ∙ comes_in_law n old.limit es (spot, p) left old.ids new.ids spots
          (record { limit_is = f.limit; before = f.ring; after = is'; split = ap (opened_by old.ids) same ∙ opened; not_held = gone }) f.spots t;
    }

-- ---- the spans of one batch, one by one
pub follows_none : (n : ℕ) (h : List Entry) (b : Batch) (newest : RingValue) (spots : TraceId → List Spot) → FollowsEvents n (located_events h) newest spots
    → FollowsEvents n (located_upto h b 0) newest spots
follows_none n h b newest spots f = subst (λ es. FollowsEvents n es newest spots) (sym (upto_none h b)) f

pub upto_end : (h : List Entry) (b : Batch) (i : ℕ) → length b.spans ≤ i → located_upto h b i ≡ located_upto h b (length b.spans)
upto_end h b i past =
    ap (λ ss. located_events h ++ map came (located_in (length h + 1) 0 (map (placed b) ss)))
    (take_all i b.spans past ∙ sym (take_all (length b.spans) b.spans (omega arith)))

pub follows_batch : (n : ℕ) (h : List Entry) (e : Entry) (b : Batch) → e.work ≡ brings.Batch b → (newest : RingValue) (spots : TraceId → List Spot)
    → FollowsEvents n (located_upto h b (length b.spans)) newest spots → FollowsEvents n (located_events (h ++ e ∷ [])) newest spots
follows_batch n h e b is newest spots f = subst (λ es. FollowsEvents n es newest spots) (upto_all h e b is) f

-- ---- a limit
pub follows_limit : (n : ℕ) (h : List Entry) (e : Entry) (m : ℕ) → e.work ≡ brings.TraceLimit m → (old new : RingValue) (spots spots' : TraceId → List Spot)
    → FollowsEvents n (located_events h) old spots → new.limit ≡ m → new.ids ≡ newest m old.ids
    → ((t : TraceId) → spots' t ≡ without_evicted old.ids new.ids spots t)
    → FollowsEvents n (located_events (h ++ e ∷ [])) new spots'
follows_limit n h e m set old new spots spots' f limit_is is changed =
    let es = located_events h in
    let push = sym (events-push es (limited m)) in
    let all : located_events (h ++ e ∷ []) ≡ es ++ limited m ∷ [] = located_push_law h e ∙ ap (λ w. es ++ located_by (length h + 1) w) set in
    subst (λ xs. FollowsEvents n xs new spots') (sym all) (record {
      limit = limit_is ∙ sym (limit_limited n (events_in es) m) ∙ ap (limit_after n) push;
      ring = ring_fewer n (events_in es) m old.ids new.ids f.ring is ∙ ap (ring n) push;
      spots = λ t. changed t ∙ lowers_law n m es old.ids new.ids spots (record { before = f.ring; after = is }) f.spots t;
    })

-- ---- the spans at the spots of a trace
pub spots_name : (n : ℕ) (h : List Entry) (newest : RingValue) (spots : TraceId → List Spot) (t : TraceId) (found : List Spot)
    → FollowsEvents n (located_events h) newest spots → found ≡ spots t → map (span_at h) found ≡ map Some (spans_of_trace n (events h) t)
spots_name n h newest spots t found f is = ap (map (span_at h)) (is ∙ f.spots t) ∙ spans_at_shown_law n h t

pub none_found : (f : List Placed → List Shown) (h : List Entry) (found : List Spot) (spans : List Placed) → map (span_at h) found ≡ map Some spans
    → length found ≡ 0 → None ≡ option_map f (if_any spans)
none_found f h [] [] same none = refl
none_found f h [] (p ∷ spans) same none = absurd cc
none_found f h (s ∷ found) spans same none = absurd (omega (arith, none))

pub some_found : (f : List Placed → List Shown) (h : List Entry) (found : List Spot) (spans items : List Placed) (shown : List Shown)
    → map (span_at h) found ≡ map Some spans → items ≡ spans_named h found → 0 < length found → shown ≡ f items → Some shown ≡ option_map f (if_any spans)
some_found f h [] spans items shown same got some is = absurd (omega arith)
some_found f h (s ∷ found) [] items shown same got some is = absurd cc
some_found f h (s ∷ found) (p ∷ spans) items shown same got some is = ap Some (is ∙ ap f (got ∙ named_is h (s ∷ found) (p ∷ spans) same))

-- ---- the spans of a trace at their spots
pub trace_stands : (n : ℕ) (h : List Entry) (spots : TraceId → List Spot) → ((t : TraceId) → spots t ≡ shown_spots n (located_events h) t) → (t : TraceId)
    → trace_named h spots t ≡ spans_of_trace n (events h) t
trace_stands n h spots all t = named_is h (spots t) (spans_of_trace n (events h) t) (ap (map (span_at h)) (all t) ∙ spans_at_shown_law n h t)
