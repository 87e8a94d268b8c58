use Rattle.std.proofs.Common.{◌≡◌}
use Rattle.std.specs.Prelude.{slice_get}
use Rattle.collected_traces.specs.EntriesAtPlaces.{spans_named}
use Rattle.journal_traces.proofs.spotted_spans.first_seen.Given as goal

abbrev pub invariant-loop-spot : goal.invariant-loop-spot
invariant-loop-spot l = slice_get (spans_named l.journal.held.entries l.spot-iterator) 0 ≡ slice_get (spans_named l.journal.held.entries l.fn.spots) 0
