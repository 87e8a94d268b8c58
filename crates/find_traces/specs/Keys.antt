-- The sort keys of traces.
use Rattle.std.specs.Prelude.{ℕ, Bool, List}
use Rattle.std.specs.List.{list_any}
use Rattle.std.specs.declared.cmp.Ordering.{Ordering}
use Rattle.std.specs.declared.cmp.Reverse.{Reverse}
use Rattle.std.specs.Ordering.{ordering_then, int_cmp, nat_cmp}
use Rattle.jaeger_model.specs.declared.placed.Placed.{Placed}
use Rattle.trace_model.specs.declared.query.Find.{Find}
use Rattle.trace_model.specs.Searching.{matches}
use Rattle.find_traces.specs.declared.key.Key.{Key}
use Rattle.find_traces.specs.FoundIndices.{start_of, trace_at}

abbrev pub key_of : ℕ × List Placed → Key
key_of e = record { start = start_of e; index = e.0 }

abbrev pub key_index : Key → ℕ
key_index k = k.index

abbrev pub key_cmp : Key → Key → Ordering
key_cmp a b = ordering_then (int_cmp a.start b.start) (nat_cmp a.index b.index)

-- the greatest first
abbrev pub best_cmp : Key → Key → Ordering
best_cmp a b = key_cmp b a

-- in an order whose least is the best
abbrev pub reversed : Key → Reverse Key
reversed k = record { 0 = k }

abbrev pub reverse_key_of : ℕ × List Placed → Reverse Key
reverse_key_of e = reversed (key_of e)

abbrev pub reverse_key_index : Reverse Key → ℕ
reverse_key_index r = key_index r.0

abbrev pub reverse_key_cmp : Reverse Key → Reverse Key → Ordering
reverse_key_cmp a b = best_cmp a.0 b.0

-- the trace at the index matches
abbrev pub found_at : Find → List (List Placed) → ℕ → Bool
found_at q ts i = list_any (matches q) (trace_at ts i)
