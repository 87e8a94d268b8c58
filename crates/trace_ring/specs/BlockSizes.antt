-- The number of starts in blocks.
use Rattle.std.specs.Prelude.{ℕ, ◌-◌, ◌*◌, min, List}
use Rattle.std.specs.List.{sum_by}
use Rattle.trace_ring.specs.declared.first_starts.bounds.TheConstants.{BLOCK}
use Rattle.trace_ring.specs.declared.first_starts.thresholds.BoundedBlock.{BoundedBlock}

-- the number of starts in a block, if this number of them was pushed in all
abbrev pub block_size : ℕ → ℕ → ℕ
block_size used block = min BLOCK (used - block * BLOCK)

-- the number of starts in these blocks
unfoldable pub starts_in : ℕ → List BoundedBlock → ℕ
starts_in used blocks = sum_by (λ (b : BoundedBlock). block_size used b.block) blocks
