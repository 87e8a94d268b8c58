use Rattle.std.proofs.Common.{Ok, sym, ap, ◌∙◌}
use Rattle.step_lines.proofs.Texts.{target_read, target_bad}
use Rattle.step_lines.proofs.target.read_target.Goals as goal

pub returns-in-Ok : goal.returns-in-Ok
returns-in-Ok c =
    target_read c.args.word.now (sym c.is_empty.ensures ∙ c.if-is_empty.false) c.in-Ok.ensures.cases.1 ∙ ap Ok (sym c.in-Ok.ensures.cases.0)

pub returns-in-Err : goal.returns-in-Err
returns-in-Err c = target_bad c.args.word.now (sym c.is_empty.ensures ∙ c.if-is_empty.false) c.in-Err.ensures.cases.0
