-- The traces at the indices are those that a search finds.
use Rattle.std.proofs.Common.{◌≡◌, ℕ, ◌+◌, true, false, cond, List, [], ◌∷◌, ◌++◌, map, length, take, refl, sym, ap, subst, ◌∙◌, arith, ◌<◌, ◌≤◌}
use Rattle.std.specs.Prelude.{filter, if◌then◌else◌, ◌==◌}
use Rattle.std.specs.List.{list_any, All, filter_map, cons_option, enumerate_from}
use Rattle.std.proofs.lemmas.List.{append-nil, length-take-le, map_push, take-map, take_more}
use Rattle.std.proofs.lemmas.List.Elements.{All-from_get_or, All-filter, filter-append}
use Rattle.std.proofs.lemmas.List.Sorted.{All-permutation}
use Rattle.std.proofs.lemmas.Simd.{map-map}
use Rattle.jaeger_model.specs.declared.placed.Placed.{Placed}
use Rattle.trace_model.specs.declared.query.Find.{Find}
use Rattle.trace_model.specs.Searching.{matches, matching, first_start, first_id, ids_of, ranked_by_start, cut, found_in}
use Rattle.trace_model.proofs.Lists.{map_agree, all_cut}
use Rattle.trace_model.proofs.RankedLists.{ranked-permutation, ranked-map}
use Rattle.find_traces.specs.FoundIndices.{is_hit, start_of, hits, indices_found, trace_at, id_at}
use Rattle.find_traces.specs.Keys.{reverse_key_of, reverse_key_index}
use Rattle.std.proofs.lemmas.List.FromFn.{get_or-enumerate_from, length-enumerate_from}

abbrev index : ℕ × List Placed → ℕ
index e = e.0

abbrev trace : ℕ × List Placed → List Placed
trace e = e.1

pub map_cut : {X Y : Type 0} (f : X → Y) (n : ℕ) (xs : List X) → map f (cut n xs) ≡ cut n (map f xs)
map_cut f n xs =
    elim (n == 0) as (λ b. map f (if b then xs else take n xs) ≡ (if b then map f xs else take n (map f xs))) [ true ↦ refl | false ↦ sym (take-map f n xs) ]

-- the indices of the sorted and cut hits
pub indices_of_hits : (q : Find) (ts : List (List Placed))
    → map reverse_key_index (cut q.limit (map reverse_key_of (ranked_by_start start_of (hits q ts)))) ≡ indices_found q ts
indices_of_hits q ts =
    ap (map reverse_key_index) (sym (map_cut reverse_key_of q.limit (ranked_by_start start_of (hits q ts))))
    ∙ map-map reverse_key_index reverse_key_of (cut q.limit (ranked_by_start start_of (hits q ts)))

-- ---- each number leads back to its trace
abbrev pub Leads : List (List Placed) → List (ℕ × List Placed) → Type 0
Leads ts es = All (λ (e : ℕ × List Placed). trace_at ts e.0 ≡ e.1) es

pub all_lead : (ts : List (List Placed)) → Leads ts (enumerate_from 0 ts)
all_lead ts =
    All-from_get_or (λ (e : ℕ × List Placed). trace_at ts e.0 ≡ e.1) (enumerate_from 0 ts) (0, []) (λ i l.
    let within : i < length ts = omega (arith, l, length-enumerate_from 0 ts) in
    let index : 0 + i ≡ i = omega arith in
    subst (λ (e : ℕ × List Placed). trace_at ts e.0 ≡ e.1) (sym (get_or-enumerate_from 0 ts i (0, []) within)) (ap (trace_at ts) index))

hits_lead : (q : Find) (ts : List (List Placed)) → All (λ (e : ℕ × List Placed). trace_at ts e.0 ≡ e.1) (cut q.limit (ranked_by_start start_of (hits q ts)))
hits_lead q ts =
    all_cut P q.limit (ranked_by_start start_of (hits q ts))
    (All-permutation P (hits q ts) (ranked_by_start start_of (hits q ts)) (ranked-permutation start_of (hits q ts))
    (All-filter (is_hit q) P (enumerate_from 0 ts) (all_lead ts)))
  where
    P : ℕ × List Placed → Type 0
    P e = trace_at ts e.0 ≡ e.1

hits_match : (q : Find) (n : ℕ) (ts : List (List Placed)) → map trace (filter (is_hit q) (enumerate_from n ts)) ≡ matching q ts
hits_match q n [] = refl
hits_match q n (t ∷ ts) =
    elim (list_any (matches q) t) as (λ b.
    map trace (cond b ((n, t) ∷ filter (is_hit q) (enumerate_from (n + 1) ts)) (filter (is_hit q) (enumerate_from (n + 1) ts)))
    ≡ cond b (t ∷ matching q ts) (matching q ts)) [
      | true ↦ ap (λ l. t ∷ l) (hits_match q (n + 1) ts)
      | false ↦ hits_match q (n + 1) ts
    ]

pub traces_found : (q : Find) (ts : List (List Placed)) → map (trace_at ts) (indices_found q ts) ≡ found_in q ts
traces_found q ts =
    map-map (trace_at ts) index (cut q.limit (ranked_by_start start_of (hits q ts)))
    ∙ map_agree (λ e. trace_at ts (index e)) trace (cut q.limit (ranked_by_start start_of (hits q ts))) (hits_lead q ts)
    ∙ map_cut trace q.limit (ranked_by_start start_of (hits q ts))
    ∙ ap (cut q.limit) (ranked-map trace first_start (hits q ts) ∙ ap (ranked_by_start first_start) (hits_match q 0 ts))

ids_through : (ts : List (List Placed)) (ns : List ℕ) → filter_map (id_at ts) ns ≡ ids_of (map (trace_at ts) ns)
ids_through ts [] = refl
ids_through ts (n ∷ ns) = ap (cons_option (first_id (trace_at ts n))) (ids_through ts ns)

pub ids_found : (q : Find) (ts : List (List Placed)) (ns : List ℕ) → map (trace_at ts) ns ≡ found_in q ts → filter_map (id_at ts) ns ≡ ids_of (found_in q ts)
ids_found q ts ns e = ids_through ts ns ∙ ap ids_of e

-- ---- one more trace
numbered_push : {X : Type 0} (n : ℕ) (xs : List X) (x : X) → enumerate_from n (xs ++ x ∷ []) ≡ enumerate_from n xs ++ (n + length xs, x) ∷ []
numbered_push n [] x = let e : n ≡ n + 0 = omega arith in ap (λ m. (m, x) ∷ []) e
numbered_push n (y ∷ ys) x =
    let e : (n + 1) + length ys ≡ n + length (y ∷ ys) = omega arith in
    ap (λ l. (n, y) ∷ l) (numbered_push (n + 1) ys x ∙ ap (λ m. enumerate_from (n + 1) ys ++ (m, x) ∷ []) e)

-- the traces after one more is read
numbered_read : (ts : List (List Placed)) (i : ℕ) → i < length ts → enumerate_from 0 (take (i + 1) ts) ≡ enumerate_from 0 (take i ts) ++ (i, trace_at ts i) ∷ []
numbered_read ts i h =
    let count : 0 + length (take i ts) ≡ i = omega (arith, length-take-le i ts (let l : i ≤ length ts = omega arith in l)) in
    ap (enumerate_from 0) (take_more ts i [] h) ∙ numbered_push 0 (take i ts) (trace_at ts i)
    ∙ ap (λ n. enumerate_from 0 (take i ts) ++ (n, trace_at ts i) ∷ []) count

hits_read : (q : Find) (ts : List (List Placed)) (i : ℕ) → i < length ts
    → hits q (take (i + 1) ts) ≡ hits q (take i ts) ++ cond (list_any (matches q) (trace_at ts i)) ((i, trace_at ts i) ∷ []) []
hits_read q ts i h = ap (filter (is_hit q)) (numbered_read ts i h) ∙ filter-append (is_hit q) (enumerate_from 0 (take i ts)) ((i, trace_at ts i) ∷ [])

pub hits_hit : (q : Find) (ts : List (List Placed)) (i : ℕ) → i < length ts → list_any (matches q) (trace_at ts i) ≡ true
    → map reverse_key_of (hits q (take (i + 1) ts)) ≡ map reverse_key_of (hits q (take i ts)) ++ reverse_key_of (i, trace_at ts i) ∷ []
hits_hit q ts i h m =
    ap (map reverse_key_of) (hits_read q ts i h ∙ ap (λ b. hits q (take i ts) ++ cond b ((i, trace_at ts i) ∷ []) []) m)
    ∙ map_push reverse_key_of (hits q (take i ts)) (i, trace_at ts i)

pub hits_miss : (q : Find) (ts : List (List Placed)) (i : ℕ) → i < length ts → list_any (matches q) (trace_at ts i) ≡ false
    → map reverse_key_of (hits q (take (i + 1) ts)) ≡ map reverse_key_of (hits q (take i ts))
hits_miss q ts i h m =
    ap (map reverse_key_of) (hits_read q ts i h ∙ ap (λ b. hits q (take i ts) ++ cond b ((i, trace_at ts i) ∷ []) []) m ∙ append-nil (hits q (take i ts)))
