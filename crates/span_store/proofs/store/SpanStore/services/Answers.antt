use Rattle.std.proofs.Common.{List, ◌≡◌, ◌∙◌, ap, sym, subst}
use Rattle.jaeger_model.specs.Texts.{text_cmp, sorted_set}
use Rattle.trace_model.specs.declared.entry.Entry.{Entry}
use Rattle.trace_model.specs.LimitedHistories.{LimitedHistory}
use Rattle.trace_model.specs.declared.query.Query.TheVariants.{Services}
use Rattle.trace_model.specs.declared.answer.Answer.TheVariants.{Names}
use Rattle.trace_model.specs.Answers.{answer}
use Rattle.trace_model.specs.Events.{without_limits}
use Rattle.trace_model.specs.Histories.{arrivals, events}
use Rattle.trace_model.proofs.ArrivedItems.{came_of}
use Rattle.trace_model.specs.Names.{services}
use Rattle.span_store.proofs.store.SpanStore.services.Goals as goal

pub returns : goal.returns
returns c =
    let held = c.self.inside.journal.held in
    let found = c.in_ok-names.names.items in
    let all : sorted_set text_cmp found ≡ services (without_limits (events held.entries)) =
    c.in_ok-names.ensures ∙ ap (λ (h : List Entry). services (arrivals h)) c.entries.ensures ∙ ap (λ ps. services ps) (sym (came_of held.entries)) in
    subst (λ (v : LimitedHistory). Names (sorted_set text_cmp found) ≡ answer v.limits v.entries Services) c.self.view_is (ap Names all)
