use Rattle.std.proofs.Common.{◌≡◌, take}
use Rattle.trace_model.specs.Searching.{matching}
use Rattle.collected_traces.specs.CollectedCandidates.{traces_picked, traces_spotted}
use Rattle.collected_traces.proofs.collected_candidates.CollectedCandidates.indices_that_may_meet.Given as goal

abbrev pub invariant-loop-index : goal.invariant-loop-index
invariant-loop-index l = matching l.prepared (traces_picked l.self l.picked.items) ≡ matching l.prepared (take l.index (traces_spotted l.self))
