-- Traces by the spots of their spans among entries that are collected once each.
use Rattle.std.specs.Prelude.{◌≡◌, ◌<◌, ℕ, suc, Bool, false, List, map, length, get_or, Option, option_map}
use Rattle.std.specs.Arc.{arc_value}
use Rattle.std.specs.List.{list_any, All, AllZip}
use Rattle.jaeger_model.specs.declared.batch.Batch.{Batch}
use Rattle.jaeger_model.specs.declared.batch.Process.{Process}
use Rattle.jaeger_model.specs.declared.placed.Placed.{Placed}
use Rattle.trace_model.specs.declared.entry.Entry.{Entry}
use Rattle.trace_model.specs.declared.query.Find.{Find}
use Rattle.trace_model.specs.Searching.{matches}
use Rattle.trace_model.specs.TakenSpans.{Taken, placed_taken}
use Rattle.trace_model.specs.EntryWork.{batch_brought, placed_brought}
use Rattle.trace_assembly.specs.declared.spot.Spot.{Spot}
use Rattle.trace_assembly.specs.LocatedSpans.{span_at}
use Rattle.find_traces.specs.FoundIndices.{trace_at}
use Rattle.collected_traces.specs.declared.judged_entries.JudgedEntries.{JudgedEntries}
use Rattle.collected_traces.specs.declared.collected_candidates.TakenEntry.{TakenEntry}
use Rattle.collected_traces.specs.declared.process_classes.ProcessClasses.{ProcessClasses}
use Rattle.collected_traces.specs.declared.taken_spot.TakenSpot.{TakenSpot}
use Rattle.collected_traces.specs.TraceParts.{AreStarts}
use Rattle.collected_traces.specs.EntriesAtPlaces.{process_at}
use Rattle.collected_traces.specs.ProcessClasses.{Leads}
use Rattle.collected_traces.specs.TakenSearch.{AreJudged}
use Rattle.collected_traces.specs.TakenTraces.{HaveProcesses}

-- a search, the collected entries, and the traces that the search considers, whose spans have the numbers of their
-- entries
pub record CandidatesValue : Type 0 where
  pub query : Find
  pub entries : List Entry
  pub traces : List (List Taken)

-- ---- spans by their spots among the entries
-- its place among the entries
abbrev pub spot_of : TakenSpot → Spot
spot_of s = record { place = suc s.number; index = s.index }

abbrev pub taken_spotted : List Entry → TakenSpot → Taken
taken_spotted es s = record { span = span_at es (spot_of s); number = s.number }

abbrev pub trace_spotted : List Entry → List TakenSpot → List Taken
trace_spotted es ss = map (taken_spotted es) ss

-- the spans that the traces have
abbrev pub traces_spotted : CandidatesValue → List (List Placed)
traces_spotted s = map placed_taken s.traces

-- the spans of the traces at these indices
abbrev pub traces_picked : CandidatesValue → List ℕ → List (List Placed)
traces_picked s indices = map (trace_at (traces_spotted s)) indices

-- ---- entries whose spans meet a search
-- one of the entry's spans does
abbrev pub is_entry_met : Find → Entry → Bool
is_entry_met q e = list_any (matches q) (placed_brought e.work)

-- none does if the flag says that none may
abbrev pub IsMatchFlag : Find → Entry → Bool → Type 0
IsMatchFlag q e may_meet = may_meet ≡ false → is_entry_met q e ≡ false

abbrev pub HasMatchFlag : Find → TakenEntry → Type 0
HasMatchFlag q t = IsMatchFlag q (arc_value t.entry) t.may_meet

-- the flag of a collected entry says so
abbrev pub IsMatchFlagOf : Find → TakenEntry → Bool → Type 0
IsMatchFlagOf q t may_meet = IsMatchFlag q (arc_value t.entry) may_meet

-- whether the entry of the spot may, by the flag of each entry
abbrev pub may_spot_meet : List Bool → TakenSpot → Bool
may_spot_meet flags s = get_or flags s.number false

abbrev pub may_spots_meet : List Bool → List TakenSpot → Bool
may_spots_meet flags ss = list_any (may_spot_meet flags) ss

-- ---- processes by the numbers of their entries
abbrev pub process_numbered : List Entry → ℕ → Option Process
process_numbered es n = process_at es (suc n)

-- the process of the entry's batch
abbrev pub entry_process : Entry → Option Process
entry_process e = option_map (λ (b : Batch). b.process) (batch_brought e.work)

-- the number of each span of the traces is that of the entry that reported it
abbrev pub AreNumberedByEntry : List Entry → List (List Taken) → Type 0
AreNumberedByEntry es traces = All (HaveProcesses (process_numbered es)) traces

-- the entries have these flags, and processes of them were judged
pub record AreJudgedEntries (q : Find) (es : List Entry) (j : JudgedEntries) : Type 0 where
  pub flags : AllZip (IsMatchFlag q) es j.flags.items
  pub processes : AreJudged q (process_numbered es) j.processes

-- and the classes of the entries' numbers lead to their processes
pub record IsSearchingBy (q : Find) (es : List Entry) (j : JudgedEntries) (c : ProcessClasses) : Type 0 where
  pub judged : AreJudgedEntries q es j
  pub leads : Leads (process_numbered es) c

-- ---- the value of what is collected
abbrev pub entry_shared : TakenEntry → Entry
entry_shared t = arc_value t.entry

abbrev pub entries_shared : List TakenEntry → List Entry
entries_shared ts = map entry_shared ts

abbrev pub IsSpotWithin : ℕ → TakenSpot → Type 0
IsSpotWithin count s = s.number < count

pub record AreCandidates (q : Find) (entries : List TakenEntry) (spots : List TakenSpot) (starts : List ℕ) : Type 0 where
  pub ordered : AreStarts (length spots) starts
  pub correct : All (HasMatchFlag q) entries
  pub within : All (IsSpotWithin (length entries)) spots
