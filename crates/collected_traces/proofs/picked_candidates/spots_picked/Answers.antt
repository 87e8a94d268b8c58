use Rattle.std.proofs.Common.{◌∙◌, ap, sym}
use Rattle.std.specs.Option.{option_copied}
use Rattle.trace_model.specs.TakenSpans.{placed_taken}
use Rattle.collected_traces.proofs.TakenSpans.{placed_got}
use Rattle.collected_traces.proofs.TracesAtSpots.{index_picked, picked_there, none_picked}
use Rattle.collected_traces.proofs.picked_candidates.spots_picked.Goals as goal

pub returns-in-Some : goal.returns-in-Some
returns-in-Some c =
    let v = c.args.candidates.now in
    let picked = c.args.picked.now in
    let index = c.args.index in
    let k = c.in-Some.trace.now in
    ap placed_taken c.spots.ensures ∙ placed_got v.traces k
    ∙ picked_there v picked index k (sym (ap option_copied c.in-Some.is) ∙ index_picked picked index c.get.result c.get.ensures.lookup)

pub returns-in-None : goal.returns-in-None
returns-in-None c =
    let picked = c.args.picked.now in
    none_picked c.args.candidates.now picked c.args.index
    (sym (ap option_copied c.in-None.is) ∙ index_picked picked c.args.index c.get.result c.get.ensures.lookup)
