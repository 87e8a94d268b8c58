use Rattle.std.proofs.Common.{◌≡◌, map, take}
use Rattle.trace_model.specs.ShownSpans.{of_trace}
use Rattle.plain_store.proofs.showing.shown_traces.Given as goal

abbrev pub invariant-loop-id : goal.invariant-loop-id
invariant-loop-id l = l.all.items ≡ map (λ t. of_trace t l.spans.items) (take l.id-index l.id-items)
