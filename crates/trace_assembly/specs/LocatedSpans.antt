-- Where the spans of a history are, and which spots are shown.
use Rattle.std.specs.Prelude.{◌≡◌, ℕ, suc, Bool, false, List, [], ◌∷◌, ◌++◌, map, filter, Option, Some, None, IfSome, option_to_list, slice_get, ◌+◌, length}
use Rattle.std.specs.Prelude.{take, ◌&&◌, not, if◌then◌else◌}
use Rattle.std.specs.Option.{option_and_then}
use Rattle.jaeger_model.specs.declared.ids.TraceId.{TraceId}
use Rattle.jaeger_model.specs.declared.batch.Batch.{Batch}
use Rattle.jaeger_model.specs.declared.placed.Placed.{Placed}
use Rattle.jaeger_model.specs.Parents.{domain, placed, same_trace}
use Rattle.trace_model.specs.declared.entry.Entry.{Entry}
use Rattle.trace_model.specs.declared.entry.Work.{Work}
use Rattle.trace_model.specs.declared.entry.Work.TheVariants as brings
use Rattle.trace_model.specs.EntryWork.{placed_brought}
use Rattle.trace_model.specs.Places.{entry_at}
use Rattle.trace_model.specs.Rings.{holds, newest, arrive}
use Rattle.trace_model.specs.Events.{Event, came, limited, event_map}
use Rattle.trace_model.specs.ShownSpans.{trace_of, ring, limit_after, shown_by}
use Rattle.trace_assembly.specs.declared.spot.Spot.{Spot}
use Rattle.trace_assembly.specs.AssembledRows.{with_spot, without_spots}
use Rattle.trace_ring.specs.RingValues.{opened_by}

-- the spans of the entry at this place from this index on, each with its spot
abbrev pub located_in : ℕ → ℕ → List Placed → List (Spot × Placed)
located_in place index [] = []
located_in place index (p ∷ ps) = (record { place = place; index = index }, p) ∷ located_in place (suc index) ps

-- the events of the entry at this place, each of its spans with its spot
abbrev pub located_by : ℕ → Work → List (Event (Spot × Placed))
located_by place (brings.Batch b) = map came (located_in place 0 (domain b))
located_by place (brings.TraceLimit n) = limited n ∷ []

-- those of the entries from this place on
abbrev pub located_from : ℕ → List Entry → List (Event (Spot × Placed))
located_from place [] = []
located_from place (e ∷ es) = located_by place e.work ++ located_from (suc place) es

-- the events of a history, each span with its spot; the first entry is at place 1
abbrev pub located_events : List Entry → List (Event (Spot × Placed))
located_events h = located_from 1 h

-- the events of a history and of the first spans of one more batch, up to this index
abbrev pub located_upto : List Entry → Batch → ℕ → List (Event (Spot × Placed))
located_upto h b index = located_events h ++ map came (located_in (length h + 1) 0 (map (placed b) (take index b.spans)))

-- the span at a spot
abbrev pub span_at : List Entry → Spot → Option Placed
span_at h s = option_and_then (λ (e : Entry). slice_get (placed_brought e.work) s.index) (entry_at h s.place)

abbrev pub spans_in : List (Spot × Placed) → List Placed
spans_in ls = map (λ l. l.1) ls

abbrev pub spots_in : List (Spot × Placed) → List Spot
spots_in ls = map (λ l. l.0) ls

abbrev pub located_trace : Spot × Placed → TraceId
located_trace l = trace_of l.1

-- the events of the spans alone
abbrev pub events_in : List (Event (Spot × Placed)) → List (Event Placed)
events_in es = map (event_map (λ l. l.1)) es

-- the located spans that are shown: each one's trace is in the ring after every prefix that holds the span
abbrev pub shown_in : ℕ → List (Event (Spot × Placed)) → List (Spot × Placed)
shown_in n es = shown_by located_trace n es

abbrev pub own_of : TraceId → List (Spot × Placed) → List (Spot × Placed)
own_of t ls = filter (λ l. same_trace t (trace_of l.1)) ls

-- the spots of a trace's shown spans, in the order of their arrival
abbrev pub shown_spots : ℕ → List (Event (Spot × Placed)) → TraceId → List Spot
shown_spots n es t = spots_in (own_of t (shown_in n es))

-- the spots of each trace, with that of a span that arrived
abbrev pub with_event : Event (Spot × Placed) → (TraceId → List Spot) → TraceId → List Spot
with_event (came l) spots t = with_spot (trace_of l.1) l.0 spots t
with_event (limited m) spots t = spots t

-- the trace was in the ring and isn't any more
abbrev pub is_evicted : List TraceId → List TraceId → TraceId → Bool
is_evicted old new t = holds old t && not (holds new t)

-- the spots of each trace after those of the traces that left are removed
abbrev pub without_evicted : List TraceId → List TraceId → (TraceId → List Spot) → TraceId → List Spot
without_evicted old new spots t = if is_evicted old new t then [] else spots t

-- the spots of each trace after this trace has left, if one has
abbrev pub after_eviction : Option TraceId → (TraceId → List Spot) → TraceId → List Spot
after_eviction None spots t = spots t
after_eviction (Some gone) spots t = without_spots gone spots t

-- the spots of each trace after an arrival, for which this trace has left, if one has
abbrev pub after_arrival : Spot × Placed → Option TraceId → (TraceId → List Spot) → TraceId → List Spot
after_arrival l left spots t = with_spot (trace_of l.1) l.0 (after_eviction left spots) t

-- the spots of each trace are those of its shown spans
abbrev pub AreShown : ℕ → List (Event (Spot × Placed)) → (TraceId → List Spot) → Type 0
AreShown n es spots = (t : TraceId) → spots t ≡ shown_spots n es t

-- after these events a span arrives, and the ring changes from the old traces to the new ones; this trace has left
-- for it, if one has
pub record ComesIn (n limit : ℕ) (es : List (Event (Spot × Placed))) (l : Spot × Placed) (left : Option TraceId) (old new : List TraceId) : Type 0 where
  pub limit_is : limit ≡ limit_after n (events_in es)
  pub before : old ≡ ring n (events_in es)
  pub after : new ≡ arrive limit old (trace_of l.1)
  pub split : opened_by old (trace_of l.1) ≡ option_to_list left ++ new
  pub not_held : IfSome left (λ gone. holds new gone ≡ false)

-- after these events a limit is set, which leaves these traces of the old ones
pub record Lowers (n m : ℕ) (es : List (Event (Spot × Placed))) (old new : List TraceId) : Type 0 where
  pub before : old ≡ ring n (events_in es)
  pub after : new ≡ newest m old
