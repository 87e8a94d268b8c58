use Rattle.std.proofs.Common.{ap, List, length, arith}
use Rattle.std.proofs.lemmas.List.{length-map}
use Rattle.trace_model.specs.TakenSpans.{Taken}
use Rattle.collected_traces.specs.TraceParts.{cut_at}
use Rattle.journal_traces.specs.WindowTraces.{entries_seen, trace_reported}
use Rattle.collected_traces.proofs.TraceParts.{cuts}
use Rattle.journal_traces.proofs.window_traces.WindowTraces.count.Goals as goal

pub returns : goal.returns
returns c =
    let taken = c.self.inside.taken in
    let all = cuts taken.spots.items taken.starts.items in
    let mapped = length-map (cut_at taken.spots.items taken.starts.items) (trace_reported (entries_seen taken.entries.items)) in
    let seen = ap (length {A = List Taken}) c.self.view_is in
    omega arith
