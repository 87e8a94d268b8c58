use Rattle.std.proofs.Common.{◌∙◌, ap}
use Rattle.std.specs.Prelude.{slice_get}
use Rattle.std.specs.Option.{option_and_then}
use Rattle.trace_model.specs.declared.entry.Entry.{Entry}
use Rattle.trace_model.specs.EntryWork.{placed_brought}
use Rattle.journal_traces.proofs.AddedSpans.{numbered_there}
use Rattle.journal_traces.proofs.taking.taken_at.Goals as goal

pub returns-clause-number : goal.returns-clause-number
returns-clause-number c =
    let h = c.args.journal.now.held.entries in
    let at = c.in_ok-taken.ensures.span ∙ ap (option_and_then (λ (e : Entry). slice_get (placed_brought e.work) c.args.spot.index)) c.in-Some.ensures in
    numbered_there h c.args.spot c.in_ok-taken.taken at c.in_ok-taken.ensures.number
