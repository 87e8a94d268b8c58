use Rattle.std.proofs.Common.{List, ◌≡◌, ◌∙◌, ap, sym, subst}
use Rattle.std.specs.Prelude.{filter}
use Rattle.jaeger_model.specs.Texts.{sorted_set}
use Rattle.trace_model.specs.declared.entry.Entry.{Entry}
use Rattle.trace_model.specs.LimitedHistories.{LimitedHistory}
use Rattle.trace_model.specs.declared.query.Query.TheVariants as ask
use Rattle.trace_model.specs.declared.answer.Answer.TheVariants as say
use Rattle.trace_model.specs.Answers.{answer}
use Rattle.trace_model.specs.Events.{without_limits}
use Rattle.trace_model.specs.Histories.{arrivals, events}
use Rattle.trace_model.proofs.ArrivedItems.{came_of}
use Rattle.trace_model.specs.Names.{operations, operation_cmp, is_asked_kind}
use Rattle.span_store.proofs.store.SpanStore.operations.Goals as goal

pub returns : goal.returns
returns c =
    let held = c.self.inside.journal.held in
    let service = c.args.service.now in
    let kind = c.args.kind.now in
    let listed = filter (is_asked_kind kind) (sorted_set operation_cmp c.in_ok-found.found.items) in
    let all : listed ≡ operations service kind (without_limits (events held.entries)) =
    c.in_ok-found.ensures.operations kind ∙ ap (λ (h : List Entry). operations service kind (arrivals h)) c.entries-entries.ensures
    ∙ ap (λ ps. operations service kind ps) (sym (came_of held.entries)) in
    subst (λ (v : LimitedHistory). say.Operations listed ≡ answer v.limits v.entries (ask.Operations service kind)) c.self.view_is (ap say.Operations all)
