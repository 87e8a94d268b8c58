-- The items that arrived in a history.
use Rattle.std.proofs.Common.{◌≡◌, List, [], ◌∷◌, ◌++◌, refl, ◌∙◌}
use Rattle.jaeger_model.specs.Parents.{domain}
use Rattle.trace_model.specs.declared.entry.Entry.{Entry}
use Rattle.trace_model.specs.declared.entry.Work.{Work}
use Rattle.trace_model.specs.declared.entry.Work.TheVariants as brings
use Rattle.trace_model.specs.Events.{without_limits}
use Rattle.trace_model.specs.EntryWork.{events_brought, placed_brought}
use Rattle.trace_model.specs.Histories.{arrivals, events}
use Rattle.trace_model.proofs.ShownByEvents.{without_limits-append, without_limits-came}

came_with : (c : Work) → without_limits (events_brought c) ≡ placed_brought c
came_with (brings.Batch b) = without_limits-came (domain b)
came_with (brings.TraceLimit n) = refl

-- the arrivals of a history are the items that arrived in its events
pub came_of : (h : List Entry) → without_limits (events h) ≡ arrivals h
came_of [] = refl
came_of (e ∷ h) = without_limits-append (events_brought e.work) (events h) ∙ (λ i. came_with e.work i ++ came_of h i)
