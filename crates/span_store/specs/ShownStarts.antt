-- The first starts of the shown traces, and the ranges of the starts of their spans.
use Rattle.std.specs.Prelude.{◌≡◌, ◌≤◌, ℕ, ℤ, List, length, map, if◌then◌else◌}
use Rattle.jaeger_model.specs.declared.ids.TraceId.{TraceId}
use Rattle.jaeger_model.specs.declared.placed.Placed.{Placed}
use Rattle.trace_model.specs.Events.{Event}
use Rattle.trace_model.specs.Rings.{holds}
use Rattle.trace_model.specs.Searching.{traces, first_start}
use Rattle.trace_model.specs.ShownSpans.{spans_of_trace}
use Rattle.trace_assembly.specs.declared.spot.Spot.{Spot}
use Rattle.trace_assembly.specs.AssembledRows.{Assembled}
use Rattle.trace_assembly.specs.LocatedSpans.{events_in}
use Rattle.trace_ring.specs.FirstStarts.{Starts}
use Rattle.journal_traces.specs.TraceRanges.{AreRanged}

-- these are the starts of the first spans of the traces that are shown after these events
abbrev pub AreFirst : ℕ → List (Event (Spot × Placed)) → List ℤ → Type 0
AreFirst n es starts = starts ≡ map first_start (traces n (events_in es))

-- each span that is shown after these events starts in the range of the place of its trace
abbrev pub IsRanged : ℕ → List (Event (Spot × Placed)) → Assembled → Starts → Type 0
IsRanged n es shown starts = AreRanged starts shown.newest.ids (spans_of_trace n (events_in es))

-- there is a start for each trace of the ring; each of the starts was pushed for a span, and there is room for one of each span
pub record IsCounted (shown : Assembled) (starts : Starts) : Type 0 where
  pub as_many : length starts.starts ≡ length shown.newest.ids
  pub few : starts.used ≤ shown.used
  pub same_room : starts.room ≡ shown.room

-- the starts of the traces of a ring, and of others this start
abbrev pub first_with : List TraceId → ℤ → (TraceId → ℤ) → TraceId → ℤ
first_with ids start first t = if holds ids t then first t else start
