use Rattle.std.proofs.Common.{ap, List, length, arith}
use Rattle.trace_model.specs.TakenSpans.{Taken}
use Rattle.collected_traces.proofs.TraceParts.{cuts}
use Rattle.collected_traces.proofs.taken.TakenTraces.count.Goals as goal

pub returns : goal.returns
returns c =
    let all = cuts c.self.inside.spans.items c.self.inside.starts.items in
    let seen = ap (length {A = List Taken}) c.self.view_is in
    omega arith
