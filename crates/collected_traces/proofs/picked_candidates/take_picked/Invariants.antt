use Rattle.std.proofs.Common.{◌≡◌, map, take}
use Rattle.trace_model.specs.TakenSpans.{placed_taken}
use Rattle.find_traces.specs.FoundIndices.{trace_at}
use Rattle.collected_traces.specs.CollectedCandidates.{traces_picked, AreNumberedByEntry}
use Rattle.collected_traces.proofs.picked_candidates.take_picked.Given as goal

abbrev pub invariant-loop-index : goal.invariant-loop-index
invariant-loop-index l =
    (map placed_taken l.traces ≡ map (trace_at (traces_picked l.candidates l.picked)) (take l.index-index l.indices))
    × AreNumberedByEntry l.candidates.entries l.traces
