-- The traces of a ring, whose spans start in the ranges of their places.
use Rattle.std.specs.Prelude.{◌≡◌, ℕ, ℤ, pos, ◌+ℤ◌, ◌-ℤ◌, Bool, false, List, Some, option_map, slice_get}
use Rattle.std.specs.List.{AllByRecursion}
use Rattle.jaeger_model.specs.declared.ids.TraceId.{TraceId}
use Rattle.jaeger_model.specs.declared.placed.Placed.{Placed}
use Rattle.trace_model.specs.declared.query.Find.{Find}
use Rattle.trace_assembly.specs.declared.spot.Spot.{Spot}
use Rattle.trace_assembly.specs.AssembledRows.{Assembled, spots_of}
use Rattle.trace_ring.specs.declared.first_starts.ranges.Range.{Range}
use Rattle.trace_ring.specs.declared.first_starts.ranges.Window.{Window}
use Rattle.trace_ring.specs.FirstStarts.{Starts}
use Rattle.trace_ring.specs.StartRanges.{IsIn, range_at, overlaps}

abbrev pub StartsIn : Range → Placed → Type 0
StartsIn r p = IsIn r p.span.start

-- each of these spans of a trace starts in the range of the trace's place
abbrev pub AreRanged : Starts → List TraceId → (TraceId → List Placed) → Type 0
AreRanged starts ids spans = (k : ℕ) (t : TraceId) → slice_get ids k ≡ Some t → AllByRecursion (StartsIn (range_at starts k)) (spans t)

-- the spots of a trace whose range doesn't overlap the window fail the test
abbrev pub FailsOutside : Window → Starts → Assembled → (List Spot → Bool) → Type 0
FailsOutside w starts shown p =
    (k : ℕ) (t : TraceId) → slice_get shown.newest.ids k ≡ Some t → overlaps w (range_at starts k) ≡ false → p (spots_of shown t) ≡ false

-- the times strictly between the bounds of a search's starts, widened so that the bounds are included
abbrev pub search_window : Find → Window
search_window q = record { after = option_map (λ (t : ℤ). t -ℤ pos 1) q.start_min; before = option_map (λ (t : ℤ). t +ℤ pos 1) q.start_max }
