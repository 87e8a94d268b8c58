use Rattle.std.proofs.Common.{◌≡◌, map, drop}
use Rattle.std.specs.List.{list_any}
use Rattle.trace_model.specs.Searching.{matches}
use Rattle.trace_model.specs.TakenSpans.{placed_taken}
use Rattle.collected_traces.specs.CollectedCandidates.{spot_of, entries_shared, trace_spotted, IsSearchingBy}
use Rattle.collected_traces.specs.EntriesAtPlaces.{spans_named}
use Rattle.collected_traces.proofs.taken_search.is_found.Given as goal

abbrev pub invariant-loop-spot : goal.invariant-loop-spot
invariant-loop-spot l = record {
  any : list_any (matches l.prepared) (spans_named (entries_shared l.entries) (map spot_of (drop l.spot-index l.spots)))
      ≡ list_any (matches l.prepared) (placed_taken (trace_spotted (entries_shared l.entries) l.spots));
  searching : IsSearchingBy l.prepared (entries_shared l.entries) l.judged l.classes;
}
