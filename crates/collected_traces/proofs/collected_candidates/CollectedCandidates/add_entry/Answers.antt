use Rattle.std.proofs.Common.{◌≤◌, ◌∙◌, ap, length, arith}
use Rattle.std.specs.List.{All}
use Rattle.std.proofs.lemmas.List.{length-map, map_push}
use Rattle.collected_traces.specs.TraceParts.{cut_at}
use Rattle.collected_traces.specs.CollectedCandidates.{CandidatesValue, IsSpotWithin, entry_shared, entries_shared, trace_spotted}
use Rattle.collected_traces.proofs.TracesAtSpots.{spotted_still, within_still}
use Rattle.collected_traces.proofs.collected_candidates.CollectedCandidates.add_entry.Goals as goal

pub returns-clause-traces : goal.returns-clause-traces
returns-clause-traces c =
    let was = c.self.inside in
    let es = entries_shared was.entries.items in
    let starts = was.starts.items in
    let spots = was.spots.items in
    let long : length was.entries.items ≤ length es = omega (arith, length-map was.entries.items entry_shared) in
    let within : All (IsSpotWithin (length es)) spots = within_still (length was.entries.items) (length es) spots long c.self.invariant.within in
    ap (λ l. cut_at (trace_spotted (entries_shared l) spots) starts) c.in_ok-push_tightly.ensures.items
    ∙ ap (λ l. cut_at (trace_spotted l spots) starts) (map_push entry_shared was.entries.items _)
    ∙ ap (λ l. cut_at l starts) (spotted_still es _ spots within)
    ∙ ap (λ (s : CandidatesValue). s.traces) c.self.view_is
