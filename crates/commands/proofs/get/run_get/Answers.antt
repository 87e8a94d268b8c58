use Rattle.std.proofs.Common.{sym, ◌∙◌}
use Rattle.text_lines.proofs.ReadCounts.{status_is_reads}
use Rattle.commands.proofs.ReadLimits.{get_never_failed}
use Rattle.commands.proofs.get.run_get.Goals as goal

pub returns-in-Ok-clause-limit : goal.returns-in-Ok-clause-limit
returns-in-Ok-clause-limit g c = λ lost. absurd (get_never_failed _ _ (sym c.in-Ok.ensures.runs.status_is ∙ lost))

pub returns-in-Err-clause-limit : goal.returns-in-Err-clause-limit
returns-in-Err-clause-limit g c = status_is_reads g.R.Input.gives _ _ _ c.in-Err.error _ c.in-Err.ensures.limit c.status.ensures
