use Rattle.std.proofs.Common.{◌≡◌}
use Rattle.std.specs.List.{list_any}
use Rattle.trace_model.specs.ServiceLinks.{in_window}
use Rattle.collected_traces.specs.EntriesAtPlaces.{spans_named}
use Rattle.journal_traces.proofs.spotted_spans.reaches_window.Given as goal

abbrev pub invariant-loop-spot : goal.invariant-loop-spot
invariant-loop-spot l =
    list_any (in_window l.end_ms l.lookback_ms) (spans_named l.journal.held.entries l.spot-iterator)
    ≡ list_any (in_window l.end_ms l.lookback_ms) (spans_named l.journal.held.entries l.fn.spots)
