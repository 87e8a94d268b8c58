use Rattle.std.proofs.Common.{◌≡◌}
use Rattle.std.specs.List.{list_any}
use Rattle.trace_model.specs.Searching.{matches}
use Rattle.collected_traces.specs.EntriesAtPlaces.{spans_named}
use Rattle.journal_traces.proofs.spotted_spans.is_found.Given as goal

abbrev pub invariant-loop-spot : goal.invariant-loop-spot
invariant-loop-spot l =
    list_any (matches l.judging.0) (spans_named l.judging.1 l.spot-iterator) ≡ list_any (matches l.judging.0) (spans_named l.judging.1 l.fn.spots)
