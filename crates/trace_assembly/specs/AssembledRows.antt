-- The value of an assembly.
use Rattle.std.specs.Prelude.{◌≡◌, ◌≤◌, ℕ, Bool, List, [], ◌++◌, ◌∷◌, Option, Some, None, length, get_or, slice_set, position, if◌then◌else◌}
use Rattle.jaeger_model.specs.declared.ids.TraceId.{TraceId}
use Rattle.jaeger_model.specs.declared.span.Span.{Span}
use Rattle.jaeger_model.specs.Parents.{same_trace}
use Rattle.trace_ring.specs.declared.ring.Evicted.{Evicted}
use Rattle.trace_ring.specs.RingValues.{RingValue}
use Rattle.trace_assembly.specs.declared.spot.Spot.{Spot}
use Rattle.trace_assembly.specs.ChainLists.{ChainsValue}

-- the newest traces; the spots of each trace that was ever seen, in the order in which they were added since it
-- last left; the number that was added in all, and the number that may be
pub record Assembled : Type 0 where
  pub newest : RingValue
  pub chains : List (List Spot)
  pub used : ℕ
  pub room : ℕ

abbrev pub spots_in_row : List (List Spot) → Option ℕ → List Spot
spots_in_row chains None = []
spots_in_row chains (Some row) = get_or chains row []

-- the spots of a trace: none if it was never seen
abbrev pub spots_of : Assembled → TraceId → List Spot
spots_of a t = spots_in_row a.chains (position (same_trace t) a.newest.seen)

-- each trace that was seen has one chain, and there is room for a trace for each spot
pub record IsAssembled (newest : RingValue) (chains : ChainsValue) : Type 0 where
  pub as_many : length chains.chains ≡ length newest.seen
  pub few : length newest.seen ≤ chains.used
  pub same_room : newest.room ≡ chains.room

-- the span is one of the trace
abbrev pub is_of : TraceId → Span → Bool
is_of t s = same_trace t s.trace

-- the spots of each trace after one more was added to this one
abbrev pub with_spot : TraceId → Spot → (TraceId → List Spot) → TraceId → List Spot
with_spot trace spot spots t = if same_trace t trace then spots t ++ spot ∷ [] else spots t

-- the spots of each trace after those of this one were removed
abbrev pub without_spots : TraceId → (TraceId → List Spot) → TraceId → List Spot
without_spots trace spots t = if same_trace t trace then [] else spots t

-- the spots of each row once the trace that left has none, if one left
abbrev pub rows_after_eviction : Option Evicted → List (List Spot) → List (List Spot)
rows_after_eviction None chains = chains
rows_after_eviction (Some gone) chains = slice_set chains gone.row []
