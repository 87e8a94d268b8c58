use Rattle.std.proofs.Common.{◌≡◌, ◌∙◌, ◌++◌, ◌∷◌, [], sym, rules}
use Rattle.std.specs.Int.{w128}
use mir.Val.{SFits}
use Rattle.std.proofs.lemmas.Int.{to_z-of_z}
use Rattle.span_steps.specs.Warnings.{warning_text}
use Rattle.span_steps.proofs.Warnings.{moved_said, nothing_said, unmoved_said}
use Rattle.span_steps.proofs.clock.shift.Goals as goal

pub returns-in_default-clause-ok : goal.returns-in_default-clause-ok
returns-in_default-clause-ok c =
    let d = to_z-of_z w128 c.args.delta c.ranges.delta in
    nothing_said c.args.max_skew c.args.delta c.args.shown.now c.of_delta.result (rw d at c.of_delta.ensures.warning) c.in_default.is

pub returns-in_default-warning-clause-ok : goal.returns-in_default-warning-clause-ok
returns-in_default-warning-clause-ok c =
    let d = to_z-of_z w128 c.args.delta c.ranges.delta in
    let s = c.args.shown.now in
    let w = c.in-Some.warning in
    let put : c.push.new.self ≡ s.warnings ++ warning_text w ∷ [] = search rules in
    unmoved_said c.args.max_skew c.args.delta s w c.push.new.self (sym c.in-Some.is ∙ (rw d at c.of_delta.ensures.warning))
    c.in_default-warning.not-Adjusted put

pub returns-in-Adjusted-clause-ok : goal.returns-in-Adjusted-clause-ok
returns-in-Adjusted-clause-ok c =
    let d = to_z-of_z w128 c.args.delta c.ranges.delta in
    let by = c.in-Adjusted.delta in
    let fits : SFits w128 by = search rules in
    let s = c.args.shown.now in
    let w = c.in-Some.warning in
    let put : c.push.new.self ≡ s.warnings ++ warning_text w ∷ [] = search rules in
    moved_said c.args.max_skew c.args.delta by s w c.move_span.new.span c.push.new.self (sym c.in-Some.is ∙ (rw d at c.of_delta.ensures.warning))
    c.in-Adjusted.is (rw (to_z-of_z w128 by fits) at c.move_span.ensures) put
