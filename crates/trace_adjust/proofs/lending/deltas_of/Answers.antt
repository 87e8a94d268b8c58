use Rattle.std.proofs.Common.{◌∙◌, ap}
use Rattle.trace_model.specs.Adjusting.{skew_adjusted}
use Rattle.trace_adjust.proofs.Deltas.{all_moved}
use Rattle.trace_adjust.proofs.lending.deltas_of.Goals as goal

pub returns : goal.returns
returns c =
    let m = c.args.trace.now.max_skew in
    let lent = c.args.lent.now in
    c.needed.ensures m lent ∙ all_moved m lent c.in_ok-deltas.deltas.items c.in_ok-deltas.ensures ∙ ap (skew_adjusted m) c.requires.lent
