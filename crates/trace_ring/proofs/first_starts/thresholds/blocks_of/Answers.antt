use Rattle.std.proofs.Common.{◌≡◌, ℕ, ◌-◌, ◌≤◌, length, drop, length-drop, subst, arith}
use Rattle.std.specs.BinaryHeap.{heap_items}
use Rattle.trace_ring.specs.BlockSizes.{starts_in}
use Rattle.trace_ring.specs.FirstStarts.{Starts}
use Rattle.trace_ring.proofs.BlockCounts.{one_block_more, in_any_order}
use Rattle.trace_ring.proofs.first_starts.thresholds.blocks_of.Goals as goal

pub loop-block-preserved : goal.loop-block-preserved
loop-block-preserved c =
    let used : ℕ = length c.starts.inside.opened.items in
    let more = one_block_more used c.loop-block.blocks.items c.push.new.self.items _ c.in_ok-push.ensures.items in
    omega (arith, more, c.loop-block.invariant)

pub returns : goal.returns
returns c =
    let s = c.starts.inside in
    let used : ℕ = length s.opened.items in
    let same = in_any_order used c.loop-block.blocks.items (heap_items c.from.result) c.from.ensures.1 in
    let all : length (drop s.evicted s.opened.items) ≤ starts_in used (heap_items c.from.result) =
    omega (
      arith,
      same,
      length-drop s.evicted s.opened.items,
      c.loop-block.invariant,
      c.loop-block-test.false,
      c.len-block-end.ensures,
      s.bounds.ok.0,
      c.starts.invariant.2.blocks,
    ) in
    subst (λ (v : Starts). length v.starts ≤ starts_in v.used (heap_items c.from.result)) c.starts.view_is all
