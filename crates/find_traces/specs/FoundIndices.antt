-- The indices of the traces that a search finds.
use Rattle.std.specs.Prelude.{ℕ, ℤ, Bool, List, [], map, filter, slice_index_or, Option}
use Rattle.std.specs.List.{list_any, enumerate_from}
use Rattle.jaeger_model.specs.declared.ids.TraceId.{TraceId}
use Rattle.jaeger_model.specs.declared.placed.Placed.{Placed}
use Rattle.trace_model.specs.declared.query.Find.{Find}
use Rattle.trace_model.specs.Searching.{matches, first_start, ranked_by_start, cut, first_id}

abbrev pub is_hit : Find → ℕ × List Placed → Bool
is_hit q e = list_any (matches q) e.1

abbrev pub start_of : ℕ × List Placed → ℤ
start_of e = first_start e.1

-- those that match, with their indices
abbrev pub hits : Find → List (List Placed) → List (ℕ × List Placed)
hits q ts = filter (is_hit q) (enumerate_from 0 ts)

-- the indices of the answer, in its order
abbrev pub indices_found : Find → List (List Placed) → List ℕ
indices_found q ts = map (λ (e : ℕ × List Placed). e.0) (cut q.limit (ranked_by_start start_of (hits q ts)))

abbrev pub trace_at : List (List Placed) → ℕ → List Placed
trace_at ts i = slice_index_or ts i []

abbrev pub id_at : List (List Placed) → ℕ → Option TraceId
id_at ts i = first_id (trace_at ts i)
