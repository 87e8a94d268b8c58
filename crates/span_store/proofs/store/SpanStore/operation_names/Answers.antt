use Rattle.std.proofs.Common.{List, ◌≡◌, ◌∙◌, ap, sym, subst}
use Rattle.trace_model.specs.declared.entry.Entry.{Entry}
use Rattle.trace_model.specs.LimitedHistories.{LimitedHistory}
use Rattle.trace_model.specs.declared.query.Query.TheVariants.{OperationNames}
use Rattle.trace_model.specs.declared.answer.Answer.TheVariants.{Names}
use Rattle.trace_model.specs.Answers.{answer}
use Rattle.trace_model.specs.Events.{without_limits}
use Rattle.trace_model.specs.Histories.{arrivals, events}
use Rattle.trace_model.proofs.ArrivedItems.{came_of}
use Rattle.trace_model.specs.Names.{operation_names}
use Rattle.service_index.specs.ListedNames.{names_of}
use Rattle.span_store.proofs.store.SpanStore.operation_names.Goals as goal

pub returns : goal.returns
returns c =
    let held = c.self.inside.journal.held in
    let service = c.args.service.now in
    let found = c.in_ok-found.found.items in
    let all : names_of found ≡ operation_names service (without_limits (events held.entries)) =
    c.in_ok-found.ensures.names ∙ ap (λ (h : List Entry). operation_names service (arrivals h)) c.entries-entries.ensures
    ∙ ap (λ ps. operation_names service ps) (sym (came_of held.entries)) in
    subst (λ (v : LimitedHistory). Names (names_of found) ≡ answer v.limits v.entries (OperationNames service)) c.self.view_is (ap Names all)
