use Rattle.std.proofs.Common.{rules, ◌≡◌, ◌∙◌}
use Rattle.trace_model.specs.Searching.{first_start}
use Rattle.trace_model.specs.TakenSpans.{placed_taken}
use Rattle.collected_traces.specs.CollectedCandidates.{entries_shared, trace_spotted}
use Rattle.collected_traces.proofs.EntriesAtPlaces.{first_starts, no_start}
use Rattle.collected_traces.proofs.collected_spans.first_start.Goals as goal

pub returns-in-Some : goal.returns-in-Some
returns-in-Some c =
    let ps = placed_taken (trace_spotted (entries_shared c.args.entries.now) c.args.spots.now) in
    let e : c.start.result ≡ first_start ps = c.start.ensures ∙ first_starts ps c.in-Some.seen c.in-Some.ensures in
    search rules

pub returns-in-None : goal.returns-in-None
returns-in-None c = no_start (placed_taken (trace_spotted (entries_shared c.args.entries.now) c.args.spots.now)) c.in-None.ensures
