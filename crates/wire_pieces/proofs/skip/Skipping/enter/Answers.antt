use Rattle.std.proofs.Common.{◌≡◌, ◌<◌, length, arith, rules, sym}
use Rattle.std.proofs.lemmas.Bool.{eqb-true, eqb-false}
use Rattle.wire_pieces.proofs.SkipSteps.{begun-deep, begun-struct, begun-map, begun-list}
use Rattle.wire_pieces.proofs.skip.Skipping.enter.Goals as goal

pub returns-then-is_full-clause-progress : goal.returns-then-is_full-clause-progress
returns-then-is_full-clause-progress c =
    let full : length c.args.self.now.around.items ≡ 65 = eqb-true _ _ (sym c.if-is_full.ensures.value) in
    λ piece. begun-deep _ _ piece c.requires.container (omega arith)

pub returns-in-12-clause-progress : goal.returns-in-12-clause-progress
returns-in-12-clause-progress c =
    let room : length c.args.self.now.around.items < 65 = omega (arith, eqb-false _ _ (sym c.if-is_full.ensures.value)) in
    λ piece. begun-struct _ _ piece c.requires.container room c.new.result c.in-12.is c.new.ensures.fresh

pub returns-in-13-clause-progress : goal.returns-in-13-clause-progress
returns-in-13-clause-progress c =
    let room : length c.args.self.now.around.items < 65 = omega (arith, eqb-false _ _ (sym c.if-is_full.ensures.value)) in
    λ piece. begun-map _ _ piece c.requires.container room c.new-in-13.result c.in-13.is c.new-in-13.ensures.fresh

pub returns-in_default-clause-progress : goal.returns-in_default-clause-progress
returns-in_default-clause-progress c =
    let room : length c.args.self.now.around.items < 65 = omega (arith, eqb-false _ _ (sym c.if-is_full.ensures.value)) in
    λ piece. begun-list _ _ piece c.requires.container room c.new-in_default.result (search rules) (search rules) c.new-in_default.ensures.fresh
