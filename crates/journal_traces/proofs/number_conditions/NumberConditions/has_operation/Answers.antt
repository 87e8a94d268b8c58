use Rattle.std.proofs.Common.{◌≡◌, ◌∙◌, List, Some, true, sym, ap}
use Rattle.jaeger_model.specs.Texts.{same_text}
use Rattle.trace_model.specs.declared.entry.Entry.{Entry}
use Rattle.trace_model.specs.declared.query.Find.{Find}
use Rattle.span_steps.specs.SpanConditions.{has_operation}
use Rattle.trace_assembly.specs.declared.spot.Spot.{Spot}
use Rattle.trace_assembly.specs.LocatedSpans.{span_at}
use Rattle.journal_traces.specs.Told.{is_requested_row}
use Rattle.journal_traces.proofs.number_conditions.NumberConditions.has_operation.Goals as goal

pub returns : goal.returns
returns c = λ p there own.
    let n = c.self.inside in
    let h = n.store.journal.now.held.entries in
    let spot : Spot = record { place = c.args.place; index = c.args.index } in
    let at : Some p ≡ span_at h spot = there ∙ sym (ap (λ (v : Find × List Entry). span_at v.1 spot) c.self.view_is) in
    let service : same_text n.query.now.service p.process.service ≡ true =
    ap (λ (v : Find × List Entry). same_text v.0.service p.process.service) c.self.view_is ∙ own in
    c.is_requested_row.ensures ∙ ap (is_requested_row n.requested.operation) c.row_at.ensures
    ∙ c.self.invariant.1.tells spot p at service ∙ ap (λ (v : Find × List Entry). has_operation v.0 p) c.self.view_is
