use Rattle.std.proofs.Common.{◌≡◌, ◌+◌, ◌-◌, ◌≤◌, heap_len, length}
use Rattle.std.specs.Prelude.{min}
use Rattle.trace_ring.proofs.first_starts.thresholds.Latest.add_block.Given as goal

abbrev pub invariant-loop-at : goal.invariant-loop-at
invariant-loop-at l = record {
  count : l.self.count ≡ l.fn.self.count;
  added : heap_len l.self.starts ≤ l.fn.self.count
      → heap_len l.fn.self.starts + min (l.at - l.first) (length l.starts-inside.opened.items - l.first) ≤ heap_len l.self.starts;
}
