-- The sorted traces, and their indices, are the ranking.
use Rattle.std.proofs.Common.{◌≡◌, ℕ, List, map, subst}
use Rattle.std.specs.declared.cmp.Reverse.{Reverse}
use Rattle.std.specs.List.Sorted.{IsSorted, IsStrictlySortedBy, IsPermutation}
use Rattle.std.proofs.lemmas.List.Kept.{IsStrictlySortedBy-filter}
use Rattle.std.proofs.lemmas.List.Sorted.{IsPermutation-map, IsPermutation-sym, IsPermutation-trans}
use Rattle.jaeger_model.specs.declared.placed.Placed.{Placed}
use Rattle.trace_model.specs.declared.query.Find.{Find}
use Rattle.trace_model.specs.Searching.{ranked_by_start}
use Rattle.trace_model.proofs.RankedLists.{ranked-permutation, ranked-filter}
use Rattle.find_traces.specs.declared.key.Key.{Key}
use Rattle.find_traces.specs.FoundIndices.{is_hit, start_of, hits}
use Rattle.std.specs.List.{enumerate_from}
use Rattle.find_traces.specs.Keys.{reverse_key_of, reverse_key_cmp}
use Rattle.find_traces.proofs.Order.{rank_cmp, ranked_rises, reverse_total, reverse_exact, strict_map}
use Rattle.find_traces.proofs.AscendingLists.{sorted_is}

hits_rise : (q : Find) (ts : List (List Placed)) → IsStrictlySortedBy (rank_cmp start_of) (ranked_by_start start_of (hits q ts))
hits_rise q ts =
    subst (λ (l : List (ℕ × List Placed)). IsStrictlySortedBy (rank_cmp start_of) l) (ranked-filter start_of (is_hit q) (enumerate_from 0 ts))
    (IsStrictlySortedBy-filter (rank_cmp start_of) (is_hit q) (ranked_by_start start_of (enumerate_from 0 ts)) (ranked_rises start_of ts))

pub sorted_hits : (q : Find) (ts : List (List Placed)) (ys : List (Reverse Key)) → IsPermutation (map reverse_key_of (hits q ts)) ys
    → IsSorted reverse_key_cmp ys → ys ≡ map reverse_key_of (ranked_by_start start_of (hits q ts))
sorted_hits q ts ys moved sorted =
    let found : List (ℕ × List Placed) = hits q ts in
    sorted_is reverse_total reverse_exact (map reverse_key_of (ranked_by_start start_of found)) ys
    (strict_map reverse_key_of reverse_key_cmp (ranked_by_start start_of found) (hits_rise q ts))
    (IsPermutation-trans _ _ _ (IsPermutation-map reverse_key_of _ _ (IsPermutation-sym _ _ (ranked-permutation start_of found))) moved) sorted
