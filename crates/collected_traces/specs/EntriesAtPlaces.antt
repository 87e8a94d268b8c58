-- Batches and processes of entries by their places, and spans by their spots.
use Rattle.std.specs.Prelude.{ℕ, List, filter_map, Option, option_map}
use Rattle.std.specs.Option.{option_and_then}
use Rattle.jaeger_model.specs.declared.batch.Batch.{Batch}
use Rattle.jaeger_model.specs.declared.batch.Process.{Process}
use Rattle.jaeger_model.specs.declared.placed.Placed.{Placed}
use Rattle.trace_model.specs.declared.entry.Entry.{Entry}
use Rattle.trace_model.specs.Places.{entry_at}
use Rattle.trace_model.specs.EntryWork.{batch_brought}
use Rattle.trace_assembly.specs.declared.spot.Spot.{Spot}
use Rattle.trace_assembly.specs.LocatedSpans.{span_at}

-- the batch of the entry at the place; a limit has none
abbrev pub batch_at : List Entry → ℕ → Option Batch
batch_at h place = option_and_then (λ (e : Entry). batch_brought e.work) (entry_at h place)

-- the process of the batch at a place
abbrev pub process_at : List Entry → ℕ → Option Process
process_at h place = option_map (λ (b : Batch). b.process) (batch_at h place)

-- the spans at the spots, in their order
abbrev pub spans_named : List Entry → List Spot → List Placed
spans_named h ss = filter_map (span_at h) ss
