use Rattle.std.proofs.Common.{◌≡◌, ℕ, ◌+◌, ◌-◌, ◌/◌, ◌<◌, ◌≤◌, false, length, get_or}
use Rattle.trace_ring.specs.StartRanges.{no_range, overlaps}
use Rattle.trace_ring.proofs.first_starts.starts.FirstStarts.next_within.Given as goal

abbrev pub invariant-loop-at : goal.invariant-loop-at
invariant-loop-at l = record {
  from : l.self-inside.evicted + l.from ≤ l.at;
  skipped : (k : ℕ) → l.from ≤ k → l.self-inside.evicted + k < l.at
      → overlaps l.window (get_or l.self-inside.ranges.items ((l.self-inside.evicted + k) / 256) no_range) ≡ false;
}

abbrev pub decreases-loop-at : goal.decreases-loop-at
decreases-loop-at l = length l.self-inside.opened.items - l.at
