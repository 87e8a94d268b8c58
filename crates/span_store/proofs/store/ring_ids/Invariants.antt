use Rattle.std.proofs.Common.{◌≡◌, ◌++◌}
use Rattle.span_store.proofs.store.ring_ids.Given as goal

abbrev pub invariant-loop-id : goal.invariant-loop-id
invariant-loop-id l = l.ids.items ++ l.id-iterator ≡ l.ring.ids
