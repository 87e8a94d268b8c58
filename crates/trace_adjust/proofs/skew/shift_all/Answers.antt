use Rattle.std.proofs.Common.{get_or, ap, rules, pos}
use Rattle.std.specs.Int.{w128}
use mir.Val.{SFits}
use Rattle.std.proofs.lemmas.Int.{to_z-of_z}
use Rattle.trace_adjust.proofs.ShiftedSpans.{shifted_more, all_written}
use Rattle.trace_adjust.proofs.skew.shift_all.Goals as goal

pub loop-place-preserved : goal.loop-place-preserved
loop-place-preserved c =
    let m = c.args.max_skew in
    let i = c.loop-place.place in
    let s = get_or c.loop-place.trace i c.index-trace-place.result in
    let fits : SFits w128 (get_or c.args.deltas.now i (pos 0)) = search rules in
    let one = rw (to_z-of_z w128 (get_or c.args.deltas.now i (pos 0)) fits) at c.in_ok-shift.ensures.ok in
    shifted_more m c.args.trace.now c.loop-place.trace c.args.deltas.now i s c.shift.new.shown (search rules)
    (ap (get_or c.loop-place.trace i) c.index-trace-place.is) c.requires one c.loop-place.invariant

pub returns : goal.returns
returns c = all_written c.args.max_skew c.args.trace.now c.loop-place.trace c.loop-place.place (search rules) c.loop-place.invariant
