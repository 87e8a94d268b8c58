use Rattle.std.proofs.Common.{◌∙◌}
use Rattle.std.proofs.lemmas.Result.{IfOk-weaker}
use Rattle.step_lines.proofs.Texts.{bytes_step, text_step}
use Rattle.step_lines.proofs.step.read_step.Goals as goal

pub returns-in-Ok : goal.returns-in-Ok
returns-in-Ok c = IfOk-weaker c.read_text.result _ _ (λ step is. is ∙ text_step c.args.line.now c.in-Ok.ensures.cases.1) c.read_text.ensures

pub returns-in-Err : goal.returns-in-Err
returns-in-Err c = bytes_step c.args.line.now c.in-Err.ensures.cases.0
