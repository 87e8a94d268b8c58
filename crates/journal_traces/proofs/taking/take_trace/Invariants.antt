use Rattle.collected_traces.specs.EntriesAtPlaces.{process_at}
use Rattle.collected_traces.specs.TakenTraces.{HasProcess}
use Rattle.collected_traces.proofs.TakingSpans.{IsTaking}
use Rattle.journal_traces.proofs.taking.take_trace.Given as goal

abbrev pub invariant-loop-spot : goal.invariant-loop-spot
invariant-loop-spot l = IsTaking (HasProcess (process_at l.journal.held.entries)) l.journal.held.entries l.fn.traces l.traces l.spot-iterator l.fn.spots
