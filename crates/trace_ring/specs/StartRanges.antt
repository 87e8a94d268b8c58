-- The ranges of the starts of spans.
use Rattle.std.specs.Prelude.{◌≡◌, ℕ, ℤ, pos, Bool, true, false, ◌&&◌, ◌+◌, ◌/◌, int_lt, get_or, Option, Some, None}
use Rattle.trace_ring.specs.declared.first_starts.bounds.TheConstants.{BLOCK}
use Rattle.trace_ring.specs.declared.first_starts.ranges.Range.{Range}
use Rattle.trace_ring.specs.declared.first_starts.ranges.Window.{Window}
use Rattle.trace_ring.specs.FirstStarts.{Starts}

abbrev pub no_range : Range
no_range = record { earliest = pos 0; latest = pos 0 }

-- the time is neither before the range nor after it
pub record IsIn (r : Range) (time : ℤ) : Type 0 where
  pub begun : int_lt time r.earliest ≡ false
  pub lasting : int_lt r.latest time ≡ false

-- the second range has all times of the first
pub record IsWider (r s : Range) : Type 0 where
  pub begins : int_lt r.earliest s.earliest ≡ false
  pub ends : int_lt s.latest r.latest ≡ false

-- the range of the block of the trace at a position; the oldest one is at 0
abbrev pub range_at : Starts → ℕ → Range
range_at s k = get_or s.ranges ((s.evicted + k) / BLOCK) no_range

abbrev pub ends_after : Range → Option ℤ → Bool
ends_after r None = true
ends_after r (Some bound) = int_lt bound r.latest

abbrev pub begins_before : Range → Option ℤ → Bool
begins_before r None = true
begins_before r (Some bound) = int_lt r.earliest bound

-- a time of the range may be in the window
abbrev pub overlaps : Window → Range → Bool
overlaps w r = ends_after r w.after && begins_before r w.before
