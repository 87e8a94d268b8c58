use Rattle.std.proofs.Common.{◌≡◌, map, drop}
use Rattle.std.specs.Prelude.{slice_get}
use Rattle.trace_model.specs.TakenSpans.{placed_taken}
use Rattle.collected_traces.specs.CollectedCandidates.{spot_of, entries_shared, trace_spotted}
use Rattle.collected_traces.specs.EntriesAtPlaces.{spans_named}
use Rattle.collected_traces.proofs.collected_spans.first_seen.Given as goal

abbrev pub invariant-loop-spot : goal.invariant-loop-spot
invariant-loop-spot l =
    slice_get (spans_named (entries_shared l.entries) (map spot_of (drop l.spot-index l.spots))) 0
    ≡ slice_get (placed_taken (trace_spotted (entries_shared l.entries) l.spots)) 0
