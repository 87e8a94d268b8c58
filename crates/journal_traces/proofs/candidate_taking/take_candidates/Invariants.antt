use Rattle.std.proofs.Common.{◌≡◌, take}
use Rattle.journal_traces.specs.Numbered.{AreNumbers}
use Rattle.collected_traces.specs.CollectedCandidates.{traces_spotted}
use Rattle.journal_traces.specs.SpansAtSpots.{traces_named}
use Rattle.journal_traces.proofs.candidate_taking.take_candidates.Given as goal

abbrev pub invariant-loop-trace : goal.invariant-loop-trace
invariant-loop-trace l = record {
  query : l.taken.query ≡ l.query;
  numbers : AreNumbers l.store.journal.now.held.entries l.taken.entries l.numbers;
  spans : traces_spotted l.taken ≡ traces_named l.store.journal.now.held.entries (take l.trace-index l.spots);
}
