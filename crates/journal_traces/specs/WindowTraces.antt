-- Traces of a window by the spots of their spans among entries that are collected once each, with the numbers of their
-- services.
use Rattle.std.specs.Prelude.{ℕ, List, map, filter_map, length, slice_get, Option, None, Some, option_map}
use Rattle.std.specs.Arc.{arc_value}
use Rattle.std.specs.List.{AllByRecursion}
use Rattle.jaeger_model.specs.declared.placed.Placed.{Placed}
use Rattle.trace_model.specs.declared.entry.Entry.{Entry}
use Rattle.trace_model.specs.TakenSpans.{Taken}
use Rattle.trace_model.specs.EntryWork.{placed_brought, service_brought}
use Rattle.service_index.specs.ServicePlaces.{service_at, service_number_in}
use Rattle.call_links.specs.NumberedCalls.{StandsFor}
use Rattle.collected_traces.specs.declared.taken_spot.TakenSpot.{TakenSpot}
use Rattle.journal_traces.specs.declared.window_traces.NumberedEntry.{NumberedEntry}
use Rattle.journal_traces.specs.declared.window_traces.WindowSpots.{WindowSpots}
use Rattle.collected_traces.specs.TraceParts.{cut_at, AreStarts}
use Rattle.journal_traces.specs.Numbered.{AreNumbers}
use Rattle.collected_traces.specs.CollectedCandidates.{IsSpotWithin}

-- an entry and the number of its service
abbrev pub ServedEntry : Type 0
ServedEntry = Entry × ℕ

abbrev pub entry_seen : NumberedEntry → ServedEntry
entry_seen t = (arc_value t.entry, t.service_number)

abbrev pub entries_seen : List NumberedEntry → List ServedEntry
entries_seen ts = map entry_seen ts

-- the entries alone
abbrev pub entries_in : List ServedEntry → List Entry
entries_in es = map (λ (e : ServedEntry). e.0) es

-- ---- spans by their spots among the entries
abbrev pub numbered_span : ℕ → Placed → Taken
numbered_span n p = record { span = Some p; number = n }

-- the span of the entry at an index, with the number of the service
abbrev pub taken_in : ℕ → Option ServedEntry → Option Taken
taken_in index None = None
taken_in index (Some e) = option_map (numbered_span e.1) (slice_get (placed_brought e.0.work) index)

abbrev pub taken_reported : List ServedEntry → TakenSpot → Option Taken
taken_reported es s = taken_in s.index (slice_get es s.number)

abbrev pub trace_reported : List ServedEntry → List TakenSpot → List Taken
trace_reported es ss = filter_map (taken_reported es) ss

-- the traces
abbrev pub traces_reported : WindowSpots → List (List Taken)
traces_reported w = map (trace_reported (entries_seen w.entries.items)) (cut_at w.spots.items w.starts.items)

-- ---- what holds while they are collected
-- the number is that of the entry's service among those of a history
abbrev pub HasService : List Entry → ServedEntry → Type 0
HasService h e = StandsFor (service_at h) (service_number_in h) (e.1, service_brought e.0.work)

-- the traces are being collected from a history, by the numbers of its entries among the collected ones
pub record AreWindowSpots (h : List Entry) (w : WindowSpots) (numbers : List (Option ℕ)) : Type 0 where
  pub ordered : AreStarts (length w.spots.items) w.starts.items
  pub within : AllByRecursion (IsSpotWithin (length w.entries.items)) w.spots.items
  pub services : AllByRecursion (HasService h) (entries_seen w.entries.items)
  pub found : AreNumbers h (entries_in (entries_seen w.entries.items)) numbers
