-- What an entry brings to a store.
use Rattle.std.specs.Prelude.{ℕ, ◌==◌, Bool, false, List, [], ◌∷◌, map, Option, Some, None, option_map, slice_get, unwrap_or}
use Rattle.jaeger_model.specs.declared.batch.Batch.{Batch}
use Rattle.jaeger_model.specs.declared.span.Span.{Span}
use Rattle.jaeger_model.specs.declared.placed.Placed.{Placed}
use Rattle.jaeger_model.specs.Parents.{domain}
use Rattle.jaeger_model.specs.Sameness.{same_batch}
use Rattle.trace_model.specs.declared.entry.Work.{Work}
use Rattle.trace_model.specs.declared.entry.Work.TheVariants as brings
use Rattle.trace_model.specs.Events.{Event, came, limited}

abbrev pub batch_brought : Work → Option Batch
batch_brought (brings.Batch b) = Some b
batch_brought (brings.TraceLimit n) = None

-- a limit is an entry without spans
abbrev pub spans_brought : Work → List Span
spans_brought (brings.Batch b) = b.spans
spans_brought (brings.TraceLimit n) = []

-- the service of the batch that it brings; a limit has none
abbrev pub service_brought : Work → List ℕ
service_brought (brings.Batch b) = b.process.service
service_brought (brings.TraceLimit n) = []

-- the operation of the span at the index; empty if there is no such span
abbrev pub operation_brought : Work → ℕ → List ℕ
operation_brought work index = unwrap_or (option_map (λ (s : Span). s.operation) (slice_get (spans_brought work) index)) []

-- the spans as they are kept, each with its process and with its parent among its references
abbrev pub placed_brought : Work → List Placed
placed_brought (brings.Batch b) = domain b
placed_brought (brings.TraceLimit n) = []

-- the events of the entry
abbrev pub events_brought : Work → List (Event Placed)
events_brought (brings.Batch b) = map came (domain b)
events_brought (brings.TraceLimit n) = limited n ∷ []

abbrev pub same_work : Work → Work → Bool
same_work (brings.Batch a) (brings.Batch b) = same_batch a b
same_work (brings.TraceLimit m) (brings.TraceLimit n) = m == n
same_work a b = false
