use Rattle.std.proofs.Common.{◌≡◌}
use Rattle.journal_traces.specs.Numbered.{AreNumbers}
use Rattle.journal_traces.proofs.AddedSpans.{Anything}
use Rattle.collected_traces.proofs.TakingSpans.{IsTaking}
use Rattle.journal_traces.proofs.candidate_taking.take_spots.Given as goal

abbrev pub invariant-loop-spot : goal.invariant-loop-spot
invariant-loop-spot l = record {
  numbers : AreNumbers l.matcher.journal.now.held.entries l.taken.entries l.numbers;
  query : l.taken.query ≡ l.fn.taken.query;
  taking : IsTaking Anything l.matcher.journal.now.held.entries l.fn.taken.traces l.taken.traces l.spot-iterator l.fn.spots;
}
