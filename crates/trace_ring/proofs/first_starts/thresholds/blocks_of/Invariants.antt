use Rattle.std.proofs.Common.{ℕ, ◌+◌, ◌*◌, ◌/◌, ◌≤◌, length}
use Rattle.std.specs.Prelude.{min}
use Rattle.trace_ring.specs.BlockSizes.{starts_in}
use Rattle.trace_ring.proofs.first_starts.thresholds.blocks_of.Given as goal

abbrev pub invariant-loop-block : goal.invariant-loop-block
invariant-loop-block l =
    let used : ℕ = length l.starts-inside.opened.items in
    min used (l.block * 256) ≤ starts_in used l.blocks.items + l.starts-inside.evicted / 256 * 256
