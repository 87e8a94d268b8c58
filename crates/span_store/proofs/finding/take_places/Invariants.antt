use Rattle.std.proofs.Common.{◌≡◌, map, take, []}
use Rattle.std.specs.Prelude.{slice_index_or}
use Rattle.journal_traces.specs.SpansAtSpots.{traces_named, AreNumberedByPlace}
use Rattle.trace_model.specs.TakenSpans.{placed_taken}
use Rattle.span_store.proofs.finding.take_places.Given as goal

abbrev pub invariant-loop-index : goal.invariant-loop-index
invariant-loop-index l =
    (map placed_taken l.taken ≡ map
    (λ i. slice_index_or (traces_named l.traces.store.journal.now.held.entries l.traces.spots.now) i []) (take l.index-index l.indices))
    × AreNumberedByPlace l.traces.store.journal.now.held.entries l.taken
