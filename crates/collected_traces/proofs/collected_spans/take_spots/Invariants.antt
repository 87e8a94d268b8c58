use Rattle.std.proofs.Common.{map, drop}
use Rattle.collected_traces.specs.TakenTraces.{HasProcess}
use Rattle.collected_traces.specs.CollectedCandidates.{spot_of, entries_shared, process_numbered}
use Rattle.collected_traces.proofs.TakingSpans.{IsTaking}
use Rattle.collected_traces.proofs.collected_spans.take_spots.Given as goal

abbrev pub invariant-loop-spot : goal.invariant-loop-spot
invariant-loop-spot l =
    IsTaking (HasProcess (process_numbered (entries_shared l.entries))) (entries_shared l.entries) l.fn.traces l.traces
    (map spot_of (drop l.spot-index l.spots)) (map spot_of l.spots)
