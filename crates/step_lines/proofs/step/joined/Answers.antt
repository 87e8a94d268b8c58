use Rattle.std.proofs.Common.{arith, sym, ap, ◌∙◌}
use Rattle.step_lines.specs.Steps.{nonempty}
use Rattle.step_lines.proofs.Texts.{joined_is, some_text, no_text}
use Rattle.step_lines.proofs.step.joined.Goals as goal

pub returns-then-is_empty : goal.returns-then-is_empty
returns-then-is_empty c =
    let text = joined_is c.args.pieces.now c.in_ok-text.text.items c.in_ok-text.ensures.ok in
    ap nonempty text ∙ no_text c.in_ok-text.text.items _ (omega (arith, c.in_ok-text.text.ok.0)) (sym c.is_empty.ensures ∙ c.if-is_empty.true)

pub returns : goal.returns
returns c =
    let text = joined_is c.args.pieces.now c.in_ok-text.text.items c.in_ok-text.ensures.ok in
    ap nonempty text ∙ some_text c.in_ok-text.text.items _ (omega (arith, c.in_ok-text.text.ok.0)) (sym c.is_empty.ensures ∙ c.if-is_empty.false)
