use Rattle.std.proofs.Common.{◌≤◌, length}
use Rattle.std.specs.Prelude.{count_by, not}
use Rattle.trace_adjust.proofs.clocks.climb.Given as goal

abbrev pub invariant-loop-at : goal.invariant-loop-at
invariant-loop-at l = length l.fn.order.items ≤ length l.order.items

-- the places that were not reached
abbrev pub decreases-loop-at : goal.decreases-loop-at
decreases-loop-at l = count_by (λ b. not b) l.reached.items
