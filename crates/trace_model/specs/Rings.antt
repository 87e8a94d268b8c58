-- The newest traces.
use Rattle.std.specs.Prelude.{ℕ, zero, suc, ◌-◌, Bool, List, [], ◌∷◌, ◌++◌, length, drop, fold, if◌then◌else◌}
use Rattle.std.specs.List.{list_any}
use Rattle.jaeger_model.specs.declared.ids.TraceId.{TraceId}
use Rattle.jaeger_model.specs.Parents.{same_trace}
use Rattle.trace_model.specs.Events.{Event, came, limited}

abbrev pub holds : List TraceId → TraceId → Bool
holds ring t = list_any (same_trace t) ring

-- the last n, or all if n is 0
abbrev pub newest : ℕ → List TraceId → List TraceId
newest zero ring = ring
newest (suc n) ring = drop (length ring - suc n) ring

-- the ring after a span of the trace has arrived
abbrev pub arrive : ℕ → List TraceId → TraceId → List TraceId
arrive n ring t = if holds ring t then ring else newest n (ring ++ t ∷ [])

-- the newest traces, oldest first, and the limit; 0 is no limit
pub record LimitedRing : Type 0 where
  pub limit : ℕ
  pub ids : List TraceId

-- an arrival obeys the current limit; a new limit replaces it, and drops the oldest traces beyond it
abbrev pub ring_step : {A : Type 0} → (A → TraceId) → LimitedRing → Event A → LimitedRing
ring_step trace r (came x) = record r { ids = arrive r.limit r.ids (trace x) }
ring_step trace r (limited n) = record { limit = n; ids = newest n r.ids }

-- the ring after these events, if the limit was n before them
abbrev pub limited_ring : {A : Type 0} → (A → TraceId) → ℕ → List (Event A) → LimitedRing
limited_ring trace n es = fold (ring_step trace) (record { limit = n; ids = [] }) es
