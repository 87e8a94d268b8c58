-- The events of the plain store, and what it shows after them.
use Rattle.std.specs.Prelude.{◌≡◌, ℕ, List, filter}
use Rattle.jaeger_model.specs.declared.ids.TraceId.{TraceId}
use Rattle.jaeger_model.specs.declared.placed.Placed.{Placed}
use Rattle.trace_model.specs.Events.{Event, came, limited}
use Rattle.trace_model.specs.Rings.{holds}
use Rattle.trace_model.specs.ShownSpans.{trace_of, ring, limit_after, shown}
use Rattle.plain_store.specs.declared.showing.StoreEvent.{StoreEvent}
use Rattle.plain_store.specs.declared.showing.StoreEvent.TheVariants as happens
use Rattle.plain_store.specs.declared.showing.Showing.{Showing}

abbrev pub event_of : StoreEvent → Event Placed
event_of (happens.Came p) = came p
event_of (happens.Limited n) = limited n

-- those whose trace is in the ring
abbrev pub in_ring : List TraceId → List Placed → List Placed
in_ring r ps = filter (λ p. holds r (trace_of p)) ps

-- what is shown after these events, if the limit was n before them
pub record Shows (n : ℕ) (es : List (Event Placed)) (s : Showing) : Type 0 where
  pub limit_is : s.limit ≡ limit_after n es
  pub ring_is : s.ring.items ≡ ring n es
  pub spans_are : s.spans.items ≡ shown n es
