use Rattle.std.proofs.Common.{◌∙◌, sym}
use Rattle.trace_model.specs.Places.{entry_at}
use Rattle.journal_traces.proofs.UnmetEntries.{unoutlined}
use Rattle.journal_traces.proofs.candidate_taking.is_outlined.Goals as goal

pub returns : goal.returns
returns c = λ e at none.
    let t = c.args.matcher.now in
    unoutlined t.filter e (entry_at t.journal.now.held.entries c.args.place) c.in-Some.outline at (sym c.in-Some.is ∙ c.outline.ensures)
    (sym c.may_meet.ensures ∙ none)
