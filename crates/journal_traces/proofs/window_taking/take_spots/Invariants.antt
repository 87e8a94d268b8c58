use Rattle.journal_traces.specs.WindowTraces.{traces_reported, AreWindowSpots}
use Rattle.journal_traces.proofs.AddedSpans.{Anything}
use Rattle.collected_traces.proofs.TakingSpans.{IsTaking}
use Rattle.journal_traces.proofs.window_taking.take_spots.Given as goal

abbrev pub invariant-loop-spot : goal.invariant-loop-spot
invariant-loop-spot l = record {
  taken : AreWindowSpots l.store.journal.now.held.entries l.taken l.numbers;
  taking : IsTaking Anything l.store.journal.now.held.entries (traces_reported l.fn.taken) (traces_reported l.taken) l.spot-iterator l.fn.spots;
}
