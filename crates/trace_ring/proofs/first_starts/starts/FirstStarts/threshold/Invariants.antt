use Rattle.std.proofs.Common.{◌≡◌, ◌+◌, ◌≤◌, heap_len, length}
use Rattle.std.specs.BinaryHeap.{heap_items}
use Rattle.trace_ring.specs.BlockSizes.{starts_in}
use Rattle.trace_ring.proofs.first_starts.starts.FirstStarts.threshold.Given as goal

abbrev pub invariant-loop-next : goal.invariant-loop-next
invariant-loop-next l = record {
  count : l.latest.count ≡ l.count;
  found : heap_len l.latest.starts ≤ l.count
      → length l.self.starts ≤ heap_len l.latest.starts + starts_in l.self.used (heap_items l.blocks);
}

abbrev pub decreases-loop-next : goal.decreases-loop-next
decreases-loop-next l = heap_len l.blocks
