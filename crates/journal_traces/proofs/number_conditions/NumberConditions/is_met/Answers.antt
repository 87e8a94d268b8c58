use Rattle.std.proofs.Common.{◌∙◌, ◌&&◌, List, sym, ap}
use Rattle.trace_model.specs.declared.query.Find.{Find}
use Rattle.trace_model.specs.declared.entry.Entry.{Entry}
use Rattle.trace_model.specs.BorrowedSpans.{seen, placed_by_its_entry}
use Rattle.trace_model.specs.Searching.{is_timed}
use Rattle.journal_traces.proofs.RequestedOperation.{operation-adopted}
use Rattle.journal_traces.proofs.number_conditions.NumberConditions.is_met.Goals as goal

pub returns-then-has_operation : goal.returns-then-has_operation
returns-then-has_operation c =
    let q = c.args.self.now.0 in
    let p = seen c.args.at in
    let own = c.has_operation.ensures (placed_by_its_entry c.args.at) c.requires.there c.requires.service ∙ operation-adopted q p in
    c.is_timed.ensures ∙ ap (λ (v : Find × List Entry). is_timed v.0 p) c.self.view_is
    ∙ ap (λ b. b && is_timed q p) (sym (sym own ∙ c.if-has_operation.true))

pub returns-else-has_operation : goal.returns-else-has_operation
returns-else-has_operation c =
    let q = c.args.self.now.0 in
    let p = seen c.args.at in
    let own = c.has_operation.ensures (placed_by_its_entry c.args.at) c.requires.there c.requires.service ∙ operation-adopted q p in
    c.if-has_operation.false ∙ ap (λ b. b && is_timed q p) (sym (sym own ∙ c.if-has_operation.false))
