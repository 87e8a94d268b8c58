-- Spans and traces by their spots in the entries.
use Rattle.std.specs.Prelude.{◌≡◌, ℕ, List, [], ◌∷◌, ◌++◌, map, Option, Some}
use Rattle.std.specs.List.{cons_option, All}
use Rattle.jaeger_model.specs.declared.batch.Process.{Process}
use Rattle.jaeger_model.specs.declared.ids.TraceId.{TraceId}
use Rattle.jaeger_model.specs.declared.span.Span.{Span}
use Rattle.jaeger_model.specs.Parents.{with_parent}
use Rattle.jaeger_model.specs.declared.placed.Placed.{Placed}
use Rattle.trace_model.specs.declared.entry.Entry.{Entry}
use Rattle.trace_assembly.specs.declared.spot.Spot.{Spot}
use Rattle.service_index.specs.ServicePlaces.{service_at, service_number_in}
use Rattle.trace_model.specs.TakenSpans.{Taken, placed_taken}
use Rattle.call_links.specs.NumberedCalls.{IsNumberedBy, AreNumberedBy}
use Rattle.collected_traces.specs.EntriesAtPlaces.{process_at, spans_named}
use Rattle.collected_traces.specs.TakenTraces.{HaveProcesses}

-- the spans of a trace, by the spots of each trace
abbrev pub trace_named : List Entry → (TraceId → List Spot) → TraceId → List Placed
trace_named h spots t = spans_named h (spots t)

-- the traces that have these spots
abbrev pub traces_named : List Entry → List (List Spot) → List (List Placed)
traces_named h ss = map (spans_named h) ss

-- a span of this process as a store answers it
abbrev pub placed_in : Process → Span → Placed
placed_in process s = record { process = process; span = with_parent s }

-- the entries at these places reported the spans
abbrev pub AreReportedAt : List Entry → List Placed → List ℕ → Type 0
AreReportedAt h spans places = map (λ (p : Placed). Some p.process) spans ≡ map (process_at h) places

-- the number of each span of the traces is the place of the entry that reported it
abbrev pub AreNumberedByPlace : List Entry → List (List Taken) → Type 0
AreNumberedByPlace h traces = All (HaveProcesses (process_at h)) traces

-- the number of the span is that of its service among those of the entries
abbrev pub HasServiceNumber : List Entry → Taken → Type 0
HasServiceNumber h t = IsNumberedBy (service_at h) (service_number_in h) t

-- so is the number of each span of the traces
abbrev pub AreNumberedByService : List Entry → List (List Taken) → Type 0
AreNumberedByService h traces = AreNumberedBy (service_at h) (service_number_in h) traces

-- ---- the last trace grows
-- it gets this span, if there is one
abbrev pub AddsSpan : Option Placed → List (List Taken) → List (List Taken) → Type 0
AddsSpan o old new =
    (ts : List (List Taken)) (t : List Taken) → old ≡ ts ++ t ∷ [] → (more : List Taken) × (placed_taken more ≡ cons_option o [])
    × (new ≡ ts ++ (t ++ more) ∷ [])
