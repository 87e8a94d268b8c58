use Rattle.std.proofs.Common.{◌≡◌, ◌++◌}
use Rattle.trace_model.specs.TakenSpans.{placed_taken, numbers_taken}
use Rattle.collected_traces.specs.EntriesAtPlaces.{spans_named}
use Rattle.journal_traces.specs.SpansAtSpots.{AreReportedAt}
use Rattle.journal_traces.proofs.gathering.gather.Given as goal

abbrev pub invariant-loop-spot : goal.invariant-loop-spot
invariant-loop-spot l = record {
  spans : placed_taken l.spans.items ++ spans_named l.journal.held.entries l.spot-iterator ≡ spans_named l.journal.held.entries l.fn.spots;
  places : AreReportedAt l.journal.held.entries (placed_taken l.spans.items) (numbers_taken l.spans.items);
}
