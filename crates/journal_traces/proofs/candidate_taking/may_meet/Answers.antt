use Rattle.std.proofs.Common.{◌∙◌, sym}
use Rattle.journal_traces.proofs.UnmetEntries.{unasked}
use Rattle.journal_traces.proofs.candidate_taking.may_meet.Goals as goal

pub returns-else-is_of_service : goal.returns-else-is_of_service
returns-else-is_of_service c = λ e at none.
    let t = c.args.matcher.now in
    unasked t.filter t.journal.now.held.entries t.by_service.now.service_numbers t.service_number c.args.place e t.correct at
    (sym c.is_of_service.ensures ∙ c.if-is_of_service.false)
