-- The first starts of traces, and which traces start after some time.
use Rattle.std.specs.Prelude.{◌≡◌, ℕ, suc, ℤ, pos, ◌+◌, ◌-◌, ◌/◌, ◌^◌, ◌<◌, ◌≤◌, int_lt, false, List, [], ◌∷◌, length, get_or, if◌then◌else◌}
use Rattle.trace_ring.specs.declared.first_starts.bounds.TheConstants.{BLOCK}
use Rattle.trace_ring.specs.declared.first_starts.ranges.Range.{Range}

-- the starts, that of the trace opened first at the front; the number that was pushed in all, and that may be; the
-- number that was evicted, and the ranges of all blocks
pub record Starts : Type 0 where
  pub starts : List ℤ
  pub used : ℕ
  pub room : ℕ
  pub evicted : ℕ
  pub ranges : List Range

-- the positions of those after a time, counted from this one at the first
abbrev pub positions_from : ℤ → ℕ → List ℤ → List ℕ
positions_from time position [] = []
positions_from time position (s ∷ ss) = if int_lt time s then position ∷ positions_from time (suc position) ss else positions_from time (suc position) ss

abbrev pub positions_after : ℤ → List ℤ → List ℕ
positions_after time ss = positions_from time 0 ss

-- the number of blocks that this number of starts takes
abbrev pub block_count : ℕ → ℕ
block_count n = (n + (BLOCK - 1)) / BLOCK

-- no start is above the bound of its block
pub record IsBounded (room evicted : ℕ) (opened bounds : List ℤ) : Type 0 where
  pub fits : room < 2 ^ 32
  pub within : length opened ≤ room
  pub few : evicted ≤ length opened
  pub blocks : length bounds ≡ block_count (length opened)
  pub above : (i : ℕ) → i < length opened → int_lt (get_or bounds (i / BLOCK) (pos 0)) (get_or opened i (pos 0)) ≡ false
