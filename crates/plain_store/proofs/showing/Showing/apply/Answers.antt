use Rattle.std.proofs.Common.{[], ◌∷◌, ◌++◌, sym, subst}
use Rattle.plain_store.specs.Events.{event_of, Shows}
use Rattle.plain_store.specs.declared.showing.StoreEvent.{StoreEvent}
use Rattle.plain_store.proofs.Events.{once_came, once_limited, if_ok}
use Rattle.plain_store.proofs.showing.Showing.apply.Goals as goal

pub returns-in-Came : goal.returns-in-Came
returns-in-Came c =
    if_ok c.add_span.result (λ l r s n es was. subst
    (λ (h : StoreEvent). Shows n es c.args.self.now → Shows n (es ++ event_of h ∷ []) c.add_span.new.self) (sym c.in-Came.is)
    (once_came n es c.in-Came.placed c.args.self.now c.add_span.new.self l r s) was)
    c.add_span.ensures.limit c.add_span.ensures.ring c.add_span.ensures.spans

pub returns-in-Limited : goal.returns-in-Limited
returns-in-Limited c = λ n es was.
    subst (λ (h : StoreEvent). Shows n es c.args.self.now → Shows n (es ++ event_of h ∷ []) c.set_limit.new.self) (sym c.in-Limited.is)
    (once_limited n es c.in-Limited.limit c.args.self.now c.set_limit.new.self c.set_limit.ensures.limit c.set_limit.ensures.ring c.set_limit.ensures.spans)
    was
