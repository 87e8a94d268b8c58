use Rattle.std.proofs.Common.{◌≡◌, ◌∙◌, ap, sym, false, []}
use Rattle.std.proofs.lemmas.Bool.{OnFalse_from}
use Rattle.jaeger_model.specs.Texts.{same_text}
use Rattle.trace_model.specs.Searching.{found_in, traces}
use Rattle.trace_model.specs.Histories.{arrivals, events}
use Rattle.trace_model.proofs.ArrivedItems.{came_of}
use Rattle.service_index.specs.KeptNames.{reports_service, reports_operation}
use Rattle.span_store.proofs.CandidatesAreComplete.{unknown_service, unknown_operation}
use Rattle.span_store.proofs.store.store_search.may_find.Goals as goal

pub returns-then-eq : goal.returns-then-eq
returns-then-eq c =
    let q = c.args.query.now in
    let held = c.args.store.journal.now.held in
    OnFalse_from c.knows_service.result (found_in q (traces held.limits.traces (events held.entries)) ≡ []) (λ e.
    let none : reports_service q.service (arrivals held.entries) ≡ false =
    sym (c.knows_service.ensures ∙ (λ i. reports_service (c.as_str-service.ensures.value i) (arrivals (c.entries-entries.ensures i)))) ∙ e in
    unknown_service q held.limits.traces (events held.entries) (ap (reports_service q.service) (came_of held.entries) ∙ none))

pub returns : goal.returns
returns c =
    let q = c.args.query.now in
    let held = c.args.store.journal.now.held in
    let asked : same_text q.operation [] ≡ false = sym (c.eq.ensures ∙ ap (λ t. same_text t []) c.as_str-operation.ensures.value) ∙ c.if-eq.false in
    OnFalse_from c.knows_operation.result (found_in q (traces held.limits.traces (events held.entries)) ≡ []) (λ e.
    let none : reports_operation q.service q.operation (arrivals held.entries) ≡ false =
    sym (c.knows_operation.ensures
    ∙ (λ i. reports_operation (c.as_str-service.ensures.value i) (c.as_str-operation.ensures.value i) (arrivals (c.entries-entries.ensures i)))) ∙ e in
    unknown_operation q held.limits.traces (events held.entries) asked (ap (reports_operation q.service q.operation) (came_of held.entries) ∙ none))
