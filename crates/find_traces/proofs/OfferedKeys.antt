-- The keys of the best of some traces, of which one more is offered.
use Rattle.std.proofs.Common.{◌≡◌, ℕ, suc, ◌+◌, ◌<◌, ◌≤◌, Bool, true, false, cond, List, [], ◌∷◌, map, length}
use Rattle.std.proofs.Common.{take, drop, refl, sym, ap, subst, ◌∙◌, arith, drop-cons}
use Rattle.std.specs.Prelude.{filter, if◌then◌else◌, int_lt}
use Rattle.std.specs.List.{AllByRecursion, enumerate_from}
use Rattle.std.specs.declared.cmp.Reverse.{Reverse}
use Rattle.std.specs.declared.cmp.Ordering.{Ordering}
use Rattle.std.specs.declared.cmp.Ordering.TheVariants.{Less, Equal, Greater}
use Rattle.std.specs.Ordering.{match_ordering, ordering_reverse}
use Rattle.std.specs.BTreeSet.{insert_key}
use Rattle.std.proofs.lemmas.List.Elements.{All-filter, All-from_recursion, recursion_from_All}
use Rattle.std.proofs.lemmas.List.Sorted.{All-permutation}
use Rattle.jaeger_model.specs.declared.placed.Placed.{Placed}
use Rattle.trace_model.specs.declared.query.Find.{Find}
use Rattle.trace_model.specs.Searching.{put_by_start, ranked_by_start}
use Rattle.trace_model.proofs.RankedLists.{ranked-permutation}
use Rattle.find_traces.specs.declared.key.Key.{Key}
use Rattle.find_traces.specs.FoundIndices.{start_of, trace_at}
use Rattle.find_traces.specs.Keys.{reverse_key_of, reverse_key_cmp}
use Rattle.find_traces.specs.BestKeys.{is_match_after}
use Rattle.find_traces.proofs.Order.{After, rank_cmp, rank_total, earlier, later, places_after}
use Rattle.find_traces.proofs.InsertedKeys.{take_insert}

-- the keys of these traces, the best first
abbrev pub best_of : List (ℕ × List Placed) → List (Reverse Key)
best_of es = map reverse_key_of (ranked_by_start start_of es)

-- the trace matches and ranks after the last one
abbrev pub is_wanted : Find → List (List Placed) → Key → ℕ × List Placed → Bool
is_wanted q ts last e = is_match_after q ts last (reverse_key_of e)

-- a trace is ranked as its key joins the other keys
put_key : (x : ℕ × List Placed) (es : List (ℕ × List Placed)) → After start_of x es
    → insert_key reverse_key_cmp (map reverse_key_of es) (reverse_key_of x) ≡ map reverse_key_of (put_by_start start_of x es)
put_key x [] a = refl
put_key x (y ∷ es) a =
    let keys : List (Reverse Key) = map reverse_key_of es in
    let k = reverse_key_of x in
    let j = reverse_key_of y in
    elim (int_lt (start_of y) (start_of x)) as (λ b. int_lt (start_of y) (start_of x) ≡ b
    → match_ordering (reverse_key_cmp k j) (k ∷ j ∷ keys) (j ∷ keys) (j ∷ insert_key reverse_key_cmp keys k)
    ≡ map reverse_key_of (if b then x ∷ y ∷ es else y ∷ put_by_start start_of x es)) [
      | true ↦ λ e. ap (λ r. match_ordering r (k ∷ j ∷ keys) (j ∷ keys) (j ∷ insert_key reverse_key_cmp keys k)) (earlier start_of x y e)
      | false ↦ λ e.
          let greater : rank_cmp start_of x y ≡ Greater = (rank_total start_of).antisymm x y ∙ ap ordering_reverse (later start_of x y e a.0) in
          ap (λ r. match_ordering r (k ∷ j ∷ keys) (j ∷ keys) (j ∷ insert_key reverse_key_cmp keys k)) greater
          ∙ ap (λ l. j ∷ l) (put_key x es a.1)
    ] refl

after_ranked : (x : ℕ × List Placed) (es : List (ℕ × List Placed)) → After start_of x es → After start_of x (ranked_by_start start_of es)
after_ranked x es a =
    recursion_from_All (λ (e : ℕ × List Placed). x.0 < e.0) _
    (All-permutation (λ (e : ℕ × List Placed). x.0 < e.0) es (ranked_by_start start_of es) (ranked-permutation start_of es)
    (All-from_recursion (λ (e : ℕ × List Placed). x.0 < e.0) es a))

-- the best n of one trace more
pub offered : (n : ℕ) (keys : List (Reverse Key)) (x : ℕ × List Placed) (es : List (ℕ × List Placed)) → After start_of x es → keys ≡ take n (best_of es)
    → take n (insert_key reverse_key_cmp keys (reverse_key_of x)) ≡ take n (best_of (x ∷ es))
offered n keys x es a is =
    ap (λ l. take n (insert_key reverse_key_cmp l (reverse_key_of x))) is
    ∙ take_insert reverse_key_cmp n (best_of es) (reverse_key_of x)
    ∙ ap (take n) (put_key x (ranked_by_start start_of es) (after_ranked x es a))

-- ---- the traces from an index on
abbrev pub from_place : List (List Placed) → ℕ → List (ℕ × List Placed)
from_place ts i = enumerate_from i (drop i ts)

pub one_before : (ts : List (List Placed)) (i : ℕ) → i < length ts → from_place ts i ≡ (i, trace_at ts i) ∷ from_place ts (i + 1)
one_before ts i below =
    let next : suc i ≡ i + 1 = omega arith in
    ap (enumerate_from i) (drop-cons ts i [] below) ∙ ap (λ n. (i, trace_at ts i) ∷ enumerate_from (i + 1) (drop n ts)) next

pub all_after : (ts : List (List Placed)) (i : ℕ) → After start_of (i, trace_at ts i) (from_place ts (i + 1))
all_after ts i = places_after start_of (i, trace_at ts i) (drop (i + 1) ts)

pub kept_after : (p : ℕ × List Placed → Bool) (ts : List (List Placed)) (i : ℕ) → After start_of (i, trace_at ts i) (filter p (from_place ts (i + 1)))
kept_after p ts i =
    recursion_from_All (λ (e : ℕ × List Placed). i < e.0) _
    (All-filter p (λ (e : ℕ × List Placed). i < e.0) (from_place ts (i + 1)) (All-from_recursion (λ (e : ℕ × List Placed). i < e.0) _ (all_after ts i)))

-- ---- the trace at an index is offered after those behind it
module _ (q : Find) (ts : List (List Placed)) (last : Key) (n : ℕ) (keys : List (Reverse Key)) (i : ℕ) (below : i < length ts)
    (kept : keys ≡ take n (best_of (filter (is_wanted q ts last) (from_place ts (i + 1))))) where
  abbrev here : ℕ × List Placed
  here = (i, trace_at ts i)

  abbrev others : List (ℕ × List Placed)
  others = filter (is_wanted q ts last) (from_place ts (i + 1))

  wanted_here : (b : Bool) → is_wanted q ts last here ≡ b → filter (is_wanted q ts last) (from_place ts i) ≡ cond b (here ∷ others) others
  wanted_here b e = ap (filter (is_wanted q ts last)) (one_before ts i below) ∙ ap (λ c. cond c (here ∷ others) others) e

  pub match_offered : is_wanted q ts last here ≡ true
      → take n (insert_key reverse_key_cmp keys (reverse_key_of here)) ≡ take n (best_of (filter (is_wanted q ts last) (from_place ts i)))
  match_offered e = offered n keys here others (kept_after (is_wanted q ts last) ts i) kept ∙ ap (λ l. take n (best_of l)) (sym (wanted_here true e))

  pub none_offered : (is_wanted q ts last here ≡ true → take n (insert_key reverse_key_cmp keys (reverse_key_of here)) ≡ keys)
      → keys ≡ take n (best_of (filter (is_wanted q ts last) (from_place ts i)))
  none_offered same =
      elim (is_wanted q ts last here) as (λ b. is_wanted q ts last here ≡ b → keys ≡ take n (best_of (filter (is_wanted q ts last) (from_place ts i)))) [
        | true ↦ λ e. sym (same e) ∙ match_offered e
        | false ↦ λ e. kept ∙ ap (λ l. take n (best_of l)) (sym (wanted_here false e))
      ] refl
