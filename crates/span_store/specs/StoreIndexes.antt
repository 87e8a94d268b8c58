-- The indexes of a store beside its list of entries.
use Rattle.std.specs.Prelude.{◌≡◌, ◌<◌, ◌≤◌, ℕ, List, length}
use Rattle.jaeger_model.specs.declared.ids.TraceId.{TraceId}
use Rattle.jaeger_model.specs.declared.placed.Placed.{Placed}
use Rattle.trace_model.specs.Histories.{span_count}
use Rattle.trace_model.specs.LimitedHistories.{LimitedHistory}
use Rattle.trace_model.specs.Events.{Event}
use Rattle.trace_model.specs.ShownSpans.{ring, limit_after}
use Rattle.trace_ring.specs.RingValues.{RingValue}
use Rattle.trace_assembly.specs.declared.spot.Spot.{Spot}
use Rattle.trace_assembly.specs.AssembledRows.{Assembled, spots_of}
use Rattle.trace_assembly.specs.LocatedSpans.{located_events, events_in, shown_spots}
use Rattle.service_index.specs.ServicePlaces.{ServicePlacesValue, ArePlacesKept}
use Rattle.trace_ring.specs.FirstStarts.{Starts}
use Rattle.span_store.specs.ShownStarts.{AreFirst, IsCounted, IsRanged}
use Rattle.service_index.specs.KeptNames.{KeptNames, AreNamesKept}

-- the ring and its limit are those of these events, if the limit was n before them, and each trace has the spots of
-- its shown spans
pub record FollowsEvents (n : ℕ) (es : List (Event (Spot × Placed))) (newest : RingValue) (spots_at : TraceId → List Spot) : Type 0 where
  pub limit : newest.limit ≡ limit_after n (events_in es)
  pub ring : newest.ids ≡ ring n (events_in es)
  pub spots : (t : TraceId) → spots_at t ≡ shown_spots n es t

-- the ring has no more traces than its limit allows
abbrev pub IsRingWithin : RingValue → Type 0
IsRingWithin newest = 0 < newest.limit → length newest.ids ≤ newest.limit

-- the index of names is that of the entries, with room for all that may arrive
pub record AreNamesOf (held : LimitedHistory) (names : KeptNames) : Type 0 where
  pub kept : AreNamesKept held.entries names
  pub batches : names.numbers.batches ≡ held.limits.batches
  pub numbers : names.numbers.spans ≡ held.limits.spans
  pub index : names.index.room ≡ held.limits.spans

-- the places of services are those of the entries, with room for all that may arrive
pub record ArePlacesOf (held : LimitedHistory) (by_service : ServicePlacesValue) : Type 0 where
  pub kept : ArePlacesKept held.entries by_service
  pub batches : by_service.batches ≡ held.limits.batches

-- the shown traces with their spots, first starts and ranges, the names and the places of services are those of the
-- entries, and there is room for all spans that may arrive
pub record IsStoreKept (held : LimitedHistory) (shown : Assembled) (starts : Starts) (names : KeptNames) (by_service : ServicePlacesValue) : Type 0 where
  pub room : shown.room ≡ held.limits.spans
  pub used : shown.used ≡ span_count held.entries
  pub follows : FollowsEvents held.limits.traces (located_events held.entries) shown.newest (spots_of shown)
  pub first : AreFirst held.limits.traces (located_events held.entries) starts.starts
  pub counted : IsCounted shown starts
  pub ranged : IsRanged held.limits.traces (located_events held.entries) shown starts
  pub named : AreNamesOf held names
  pub placed : ArePlacesOf held by_service
