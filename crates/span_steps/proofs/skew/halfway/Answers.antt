use Rattle.std.proofs.Common.{rules, ◌-ℤ◌}
use Rattle.std.specs.Int.{w64, w128}
use mir.Val.{SFits}
use Rattle.std.proofs.lemmas.Int.{to_z-of_z}
use Rattle.span_steps.proofs.skew.halfway.Goals as goal

pub returns-clause-same : goal.returns-clause-same
returns-clause-same c =
    let f : SFits w128 c.later.result = search rules in
    let g : SFits w128 c.wide.result = search rules in
    let h : SFits w128 (c.later.result -ℤ c.wide.result) = search rules in
    let k : SFits w128 c.half.result = search rules in
    let m : SFits w128 c.args.spare = search rules in
    let s : SFits w64 c.args.start = search rules in
    let p : SFits w64 c.args.parent_start = search rules in
    let e1 = simp (to_z-of_z w64 c.args.parent_start p, to_z-of_z w128 c.half.result k) at c.later.ensures.same in
    let e2 = simp (to_z-of_z w64 c.args.start s) at c.wide.ensures.same in
    let e3 = simp (to_z-of_z w128 c.args.spare m) at c.half.ensures.same in
    rw (to_z-of_z w128 c.later.result f, to_z-of_z w128 c.wide.result g, to_z-of_z w128 (c.later.result -ℤ c.wide.result) h) (cc (e1, e2, e3))
