-- How a search's service and its operation are identified.
use Rattle.std.specs.Prelude.{◌≡◌, ◌+◌, ◌-◌, ◌<◌, ◌^◌, ℕ, Bool, true, false, List, length, Option, Some, None, slice_get}
use Rattle.std.specs.Option.{option_and_then}
use Rattle.jaeger_model.specs.declared.placed.Placed.{Placed}
use Rattle.jaeger_model.specs.Texts.{same_text}
use Rattle.trace_model.specs.declared.entry.Entry.{Entry}
use Rattle.trace_model.specs.declared.query.Find.{Find}
use Rattle.span_steps.specs.SpanConditions.{has_operation}
use Rattle.trace_assembly.specs.declared.spot.Spot.{Spot}
use Rattle.trace_assembly.specs.LocatedSpans.{span_at}
use Rattle.service_index.specs.declared.operation_rows.OperationRows.{OperationRows}
use Rattle.service_index.specs.OperationRows.{is_among, rows_in}
use Rattle.service_index.specs.ServicePlaces.{AreServiceNumbers, service_number_of}

-- the services of the entries have these numbers, and the requested service has this one
pub record AreTold (q : Find) (h : List Entry) (service_numbers : List ℕ) (service : Option ℕ) : Type 0 where
  pub few : length h < 2 ^ 32
  pub numbers : AreServiceNumbers h service_numbers
  pub asked : service ≡ service_number_of h q.service

-- the row of the operation of the span at an index of the entry at a place, by the number of arrivals before the first
-- span of each entry; none of a span that isn't there
abbrev pub row_at : List ℕ → List ℕ → ℕ → ℕ → Option ℕ
row_at firsts rows place index = option_and_then (λ (first : ℕ). slice_get rows (first + index)) (slice_get firsts (place - 1))

-- the row is one of those requested; without requested rows each is
abbrev pub is_requested_row : Option OperationRows → Option ℕ → Bool
is_requested_row None row = true
is_requested_row (Some requested) None = false
is_requested_row (Some requested) (Some row) = is_among (rows_in requested) row

-- of the spans of the requested service those have the requested operation whose rows are requested
pub record AreOperationsTold (q : Find) (h : List Entry) (firsts rows : List ℕ) (requested : Option OperationRows) : Type 0 where
  pub tells : (s : Spot) (p : Placed) → Some p ≡ span_at h s → same_text q.service p.process.service ≡ true
      → is_requested_row requested (row_at firsts rows s.place s.index) ≡ has_operation q p
