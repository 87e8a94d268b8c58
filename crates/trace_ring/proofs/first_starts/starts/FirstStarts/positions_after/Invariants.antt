use Rattle.std.proofs.Common.{◌≡◌, ◌-◌, ◌≤◌, ◌++◌, length, drop}
use Rattle.trace_ring.specs.FirstStarts.{positions_from, positions_after}
use Rattle.trace_ring.proofs.first_starts.starts.FirstStarts.positions_after.Given as goal

abbrev pub invariant-loop-at : goal.invariant-loop-at
invariant-loop-at l = record {
  from : l.self-inside.evicted ≤ l.at;
  found : l.positions.items ++ positions_from l.time (l.at - l.self-inside.evicted) (drop l.at l.self-inside.opened.items)
      ≡ positions_after l.time (drop l.self-inside.evicted l.self-inside.opened.items);
}

abbrev pub decreases-loop-at : goal.decreases-loop-at
decreases-loop-at l = length l.self-inside.opened.items - l.at
