use Rattle.std.proofs.Common.{inl, inr, sym, ◌∙◌}
use Rattle.text_lines.proofs.ReadCounts.{status_is_reads}
use Rattle.commands.proofs.ReadLimits.{play_never_failed}
use Rattle.commands.proofs.PlayWholes.{finishes, stops}
use Rattle.commands.proofs.play.play_lines.Goals as goal

pub returns-in-Ok-clause-runs : goal.returns-in-Ok-clause-runs
returns-in-Ok-clause-runs g c = λ limits stands.
    inl (finishes _ _ limits _ _ stands c.in-Ok.faulty c.in-Ok.ensures.all c.status_of.result c.status_of.ensures
    c.in-Ok.ensures.works.0 c.in-Ok.ensures.works.1)

pub returns-in-Err-clause-runs : goal.returns-in-Err-clause-runs
returns-in-Err-clause-runs g c = λ limits stands.
    inr (stops _ _ limits _ c.answer_lines.new.handler stands c.in-Err.error c.in-Err.ensures.some c.status.result c.status.ensures)

pub returns-in-Ok-clause-limit : goal.returns-in-Ok-clause-limit
returns-in-Ok-clause-limit g c = λ lost. absurd (play_never_failed c.in-Ok.faulty (sym c.status_of.ensures ∙ lost))

pub returns-in-Err-clause-limit : goal.returns-in-Err-clause-limit
returns-in-Err-clause-limit g c = status_is_reads g.R.Input.gives _ _ _ c.in-Err.error _ c.in-Err.ensures.limit c.status.ensures
