use Rattle.trace_model.specs.TakenSpans.{placed_taken}
use Rattle.collected_traces.specs.CollectedCandidates.{entries_shared, trace_spotted}
use Rattle.collected_traces.proofs.EntriesAtPlaces.{first_trace, no_trace}
use Rattle.collected_traces.proofs.collected_spans.first_id.Goals as goal

pub returns-in-Some : goal.returns-in-Some
returns-in-Some c =
    first_trace (placed_taken (trace_spotted (entries_shared c.args.entries.now) c.args.spots.now)) c.in-Some.seen c.in-Some.ensures

pub returns-in-None : goal.returns-in-None
returns-in-None c = no_trace (placed_taken (trace_spotted (entries_shared c.args.entries.now) c.args.spots.now)) c.in-None.ensures
