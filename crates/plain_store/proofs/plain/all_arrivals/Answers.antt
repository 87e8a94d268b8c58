use Rattle.std.proofs.Common.{◌≡◌, ◌∙◌, ◌++◌, ◌∷◌, [], List, map, ap, sym}
use Rattle.std.proofs.lemmas.List.{map_push, append-nil}
use Rattle.trace_model.specs.Events.{without_limits}
use Rattle.trace_model.proofs.ShownByEvents.{without_limits-append}
use Rattle.plain_store.specs.declared.showing.StoreEvent.{StoreEvent}
use Rattle.plain_store.specs.Events.{event_of}
use Rattle.plain_store.proofs.plain.all_arrivals.Goals as goal

more : (done : List StoreEvent) (x : StoreEvent)
    → without_limits (map event_of done) ++ without_limits (event_of x ∷ []) ≡ without_limits (map event_of (done ++ x ∷ []))
more done x = sym (ap without_limits (map_push event_of done x) ∙ without_limits-append (map event_of done) (event_of x ∷ []))

pub loop-event-preserved-in-Continue-branch-2 : goal.loop-event-preserved-in-Continue-branch-2
loop-event-preserved-in-Continue-branch-2 c =
    c.in_ok-push-in-Came.ensures.items ∙ (λ i. c.loop-event.invariant i ++ without_limits (event_of (sym c.in-Came.is i) ∷ []))
    ∙ more c.loop-event.yielded c.in-Some.event

pub loop-event-preserved : goal.loop-event-preserved
loop-event-preserved c =
    sym (append-nil c.loop-event.spans.items) ∙ (λ i. c.loop-event.invariant i ++ without_limits (event_of (sym c.in-Limited.is i) ∷ []))
    ∙ more c.loop-event.yielded c.in-Some.event
