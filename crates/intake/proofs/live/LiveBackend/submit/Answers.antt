use Rattle.std.proofs.Common.{◌∙◌, subst, inr}
use mathlib.Core.List.{IsPrefix}
use Rattle.trace_model.specs.declared.entry.Work.TheVariants as brings
use Rattle.intake.specs.Seats.{next_job}
use Rattle.intake.specs.Denials.{IsDenied}
use Rattle.intake.proofs.live.LiveBackend.submit.Goals as goal

pub returns-in-Err : goal.returns-in-Err
returns-in-Err g c =
    let job = next_job c.args.self.now.seat (brings.Batch c.args.batch) in
    let denied = subst (λ e. IsDenied g.N.StoreName.limits e c.in-Err.denial.refusal c.in-Err.denial.list)
    c.in_ok-ticket.ensures.job c.in-Err.ensures.denied in (
      c.take_denial.ensures.known ∙ c.in_ok-ticket.ensures.known,
      inr (c.take_denial.ensures.seat ∙ c.in_ok-ticket.ensures.submitted, c.take_denial.ensures.history job denied),
      subst (λ by. IsPrefix by c.take_denial.new.self.refused_by) c.in_ok-ticket.ensures.refused_by c.take_denial.ensures.longer,
    )
