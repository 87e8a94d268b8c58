use Rattle.std.proofs.Common.{◌≡◌, Bool, map, take}
use Rattle.std.specs.Prelude.{filter}
use Rattle.jaeger_model.specs.declared.ids.TraceId.{TraceId}
use Rattle.trace_assembly.specs.AssembledRows.{spots_of}
use Rattle.journal_traces.proofs.search_candidates.marked_spots.Given as goal

abbrev pub invariant-loop-index : goal.invariant-loop-index
invariant-loop-index l =
    (p : TraceId → Bool) → l.marks ≡ map p l.assembly.newest.ids → l.spots.items ≡ map (spots_of l.assembly) (filter p (take l.index l.assembly.newest.ids))
