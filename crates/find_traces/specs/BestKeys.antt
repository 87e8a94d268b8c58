-- The best keys of traces.
use Rattle.std.specs.Prelude.{◌≡◌, ◌-◌, ◌≤◌, ℕ, Bool, false, List, ◌&&◌, map, length, slice_get, Option, Some}
use Rattle.std.specs.List.{AllByRecursion, enumerate_from}
use Rattle.std.specs.Ordering.{is_lt}
use Rattle.std.specs.declared.cmp.Reverse.{Reverse}
use Rattle.jaeger_model.specs.declared.placed.Placed.{Placed}
use Rattle.trace_model.specs.declared.query.Find.{Find}
use Rattle.trace_model.specs.Searching.{ranked_by_start}
use Rattle.find_traces.specs.declared.key.Key.{Key}
use Rattle.find_traces.specs.FoundIndices.{start_of}
use Rattle.find_traces.specs.Keys.{key_cmp, reversed, reverse_key_cmp, reverse_key_of, reverse_key_index, found_at}

-- the keys of the traces, the best first
abbrev pub ranking : List (List Placed) → List (Reverse Key)
ranking ts = map reverse_key_of (ranked_by_start start_of (enumerate_from 0 ts))

-- the trace of the key matches
abbrev pub is_match : Find → List (List Placed) → Reverse Key → Bool
is_match q ts r = found_at q ts (reverse_key_index r)

-- the key ranks after the last one
abbrev pub is_after : Key → Reverse Key → Bool
is_after last r = is_lt (key_cmp r.0 last)

abbrev pub is_match_after : Find → List (List Placed) → Key → Reverse Key → Bool
is_match_after q ts last r = is_after last r && is_match q ts r

-- as many keys are kept as the limit, and none of them is worse than this one
pub record IsWorst (keys : List (Reverse Key)) (limit : ℕ) (worst : Key) : Type 0 where
  pub full : limit ≤ length keys
  pub last : AllByRecursion (λ k. is_lt (reverse_key_cmp (reversed worst) k) ≡ false) keys

-- the last of the keys
abbrev pub IsLast : List (Reverse Key) → Key → Type 0
IsLast keys last = slice_get keys (length keys - 1) ≡ Some (reversed last)
