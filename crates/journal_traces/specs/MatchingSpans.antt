-- The traces of which a service's entries have spans that meet a search.
use Rattle.std.specs.Prelude.{ℕ, Bool, false, List, [], flat_map, Option, Some, None, filter, slice_get, if◌then◌else◌}
use Rattle.std.specs.Option.{option_and_then}
use Rattle.std.specs.List.{list_any}
use Rattle.jaeger_model.specs.declared.ids.TraceId.{TraceId}
use Rattle.jaeger_model.specs.declared.span.Span.{Span}
use Rattle.jaeger_model.specs.declared.batch.Batch.{Batch}
use Rattle.jaeger_model.specs.declared.batch.Process.{Process}
use Rattle.jaeger_model.specs.Parents.{same_trace}
use Rattle.trace_model.specs.declared.query.Find.{Find}
use Rattle.trace_model.specs.declared.entry.Entry.{Entry}
use Rattle.trace_assembly.specs.AssembledRows.{is_of}
use Rattle.trace_model.specs.Places.{entry_at}
use Rattle.trace_model.specs.EntryWork.{batch_brought}
use Rattle.arrival_journal.specs.Outlines.{outline_in}
use Rattle.collected_traces.specs.EntriesAtPlaces.{batch_at}
use Rattle.collected_traces.specs.ProcessConditions.{meets}
use Rattle.journal_traces.specs.SkippedEntries.{may_meet}

-- the trace at this place of the ring, if it passes the test
abbrev pub picked : (TraceId → Bool) → List TraceId → ℕ → Option TraceId
picked p r k = option_and_then (λ (t : TraceId). if p t then Some t else None) (slice_get r k)

-- one of the spans is of the trace
abbrev pub any_of : List Span → TraceId → Bool
any_of ss t = list_any (is_of t) ss

-- those of the spans that meet every condition of the search
abbrev pub met : Find → Process → List Span → List Span
met q p ss = filter (meets q p) ss

abbrev pub met_or_none : Find → Option Batch → List Span
met_or_none q None = []
met_or_none q (Some b) = met q b.process b.spans

-- those of the batch at this place
abbrev pub met_at : Find → List Entry → ℕ → List Span
met_at q h place = met_or_none q (batch_at h place)

-- those of the entries at these places
abbrev pub met_along : Find → List Entry → List ℕ → List Span
met_along q h places = flat_map (met_at q h) places

-- ---- the definitions without the tags of the search
-- the search without its tags
abbrev pub without_tags : Find → Find
without_tags q = record q { tags = [] }

-- those of the entry's spans that meet it; none if the entry is skipped by its outline
abbrev pub near_in : Find → Entry → List Span
near_in q e = if may_meet q (outline_in e) then met_or_none (without_tags q) (batch_brought e.work) else []

abbrev pub near_or_none : Find → Option Entry → List Span
near_or_none q None = []
near_or_none q (Some e) = near_in q e

-- those of the entry at this place
abbrev pub near_at : Find → List Entry → ℕ → List Span
near_at q h place = near_or_none q (entry_at h place)

-- those of the entries at these places
abbrev pub near_along : Find → List Entry → List ℕ → List Span
near_along q h places = flat_map (near_at q h) places

-- the trace is the one of the span before
abbrev pub same_before : Option TraceId → TraceId → Bool
same_before None t = false
same_before (Some b) t = same_trace b t
