-- The answer of a search with a limit: the matches among as many traces as the limit that start last, and then the best of the others.
use Rattle.std.proofs.Common.{◌≡◌, ℕ, zero, suc, ◌+◌, ◌-◌, ◌<◌, ◌≤◌, Bool, true, false, cond, List, [], ◌∷◌, ◌++◌, map, length, take, drop}
use Rattle.std.proofs.Common.{get_or, refl, sym, ap, subst, ◌∙◌, arith, Some, slice_get, append_assoc, eqb-true}
use Rattle.std.specs.Prelude.{filter, ◌&&◌, if◌then◌else◌, ◌==◌}
use Rattle.std.specs.List.{All, AllByRecursion, enumerate_from, list_any}
use Rattle.std.specs.List.Sorted.{IsStrictlySortedBy}
use Rattle.std.specs.declared.cmp.Reverse.{Reverse}
use Rattle.std.specs.declared.cmp.Ordering.{Ordering}
use Rattle.std.specs.declared.cmp.Ordering.TheVariants.{Less, Equal, Greater}
use Rattle.std.specs.Ordering.{is_lt, ordering_reverse}
use Rattle.std.specs.Cmp.{IsTotalOrder, tied_itself}
use Rattle.std.proofs.Math.Seq.{take-append-add, take-nil}
use Rattle.std.proofs.lemmas.List.{append-nil, drop_all, length-map, length-take, map-append, map_push, take-append-drop}
use Rattle.std.proofs.lemmas.List.Elements.{All-head, All-tail, filter-append}
use Rattle.std.proofs.lemmas.List.Sorted.{All-permutation}
use Rattle.std.proofs.lemmas.Simd.{map-map}
use Rattle.jaeger_model.specs.declared.placed.Placed.{Placed}
use Rattle.trace_model.specs.declared.query.Find.{Find}
use Rattle.trace_model.specs.Searching.{matches, ranked_by_start, cut}
use Rattle.trace_model.proofs.Lists.{each_front}
use Rattle.trace_model.proofs.RankedLists.{ranked-permutation, ranked-filter}
use Rattle.find_traces.specs.declared.key.Key.{Key}
use Rattle.find_traces.specs.FoundIndices.{is_hit, start_of, hits, indices_found, trace_at}
use Rattle.find_traces.specs.Keys.{found_at, key_of, reversed, reverse_key_of, reverse_key_index, reverse_key_cmp}
use Rattle.find_traces.specs.BestKeys.{ranking, is_match, is_match_after, IsLast}
use Rattle.find_traces.proofs.Order.{ranked_rises, reverse_total, strict_map}
use Rattle.find_traces.proofs.OfferedKeys.{best_of, is_wanted}
use Rattle.find_traces.proofs.Found.{Leads, all_lead, indices_of_hits}

-- ---- filters
filter_through : {X Y : Type 0} (f : X → Y) (p : Y → Bool) (q : X → Bool) (xs : List X) → All (λ x. p (f x) ≡ q x) xs
    → filter p (map f xs) ≡ map f (filter q xs)
filter_through f p q [] h = refl
filter_through f p q (x ∷ xs) h =
    let rest = filter_through f p q xs (All-tail (λ x. p (f x) ≡ q x) x xs h) in
    ap (λ b. cond b (f x ∷ filter p (map f xs)) (filter p (map f xs))) (All-head (λ x. p (f x) ≡ q x) x xs h)
    ∙ (elim (q x) as (λ b. cond b (f x ∷ filter p (map f xs)) (filter p (map f xs)) ≡ map f (cond b (x ∷ filter q xs) (filter q xs))) [
      | true ↦ ap (λ l. f x ∷ l) rest
      | false ↦ rest
    ])

-- those that are wanted, ranked, are those of the ranking
pub wanted_ranked : (q : Find) (ts : List (List Placed)) (last : Key)
    → best_of (filter (is_wanted q ts last) (enumerate_from 0 ts)) ≡ filter (is_match_after q ts last) (ranking ts)
wanted_ranked q ts last =
    let all : List (ℕ × List Placed) = enumerate_from 0 ts in
    ap (map reverse_key_of) (sym (ranked-filter start_of (is_wanted q ts last) all))
    ∙ sym (filter_through reverse_key_of (is_match_after q ts last) (is_wanted q ts last) (ranked_by_start start_of all) (λ k d h. refl))

-- judging by index is judging the trace
ranked_judged : (q : Find) (ts : List (List Placed)) (es : List (ℕ × List Placed)) → Leads ts es
    → All (λ (e : ℕ × List Placed). found_at q ts e.0 ≡ is_hit q e) (ranked_by_start start_of es)
ranked_judged q ts es lead =
    λ k d h. ap (list_any (matches q))
    (All-permutation (λ (e : ℕ × List Placed). trace_at ts e.0 ≡ e.1) es (ranked_by_start start_of es) (ranked-permutation start_of es) lead k d h)

hits_ranked : (q : Find) (ts : List (List Placed)) → filter (is_match q ts) (ranking ts) ≡ map reverse_key_of (ranked_by_start start_of (hits q ts))
hits_ranked q ts =
    let all : List (ℕ × List Placed) = enumerate_from 0 ts in
    filter_through reverse_key_of (is_match q ts) (is_hit q) (ranked_by_start start_of all) (ranked_judged q ts all (all_lead ts))
    ∙ ap (map reverse_key_of) (ranked-filter start_of (is_hit q) all)

-- the answer, by the ranking
pub answer_ranked : (q : Find) (ts : List (List Placed)) → map reverse_key_index (cut q.limit (filter (is_match q ts) (ranking ts))) ≡ indices_found q ts
answer_ranked q ts = ap (λ l. map reverse_key_index (cut q.limit l)) (hits_ranked q ts) ∙ indices_of_hits q ts

-- ---- what is after the first ones of an ascending list
module _ {K : Type 0} {cmp : K → K → Ordering} (o : IsTotalOrder cmp) (p : K → Bool) where
  abbrev passes_after : K → K → Bool
  passes_after w x = is_lt (cmp w x) && p x

  all_after : (w : K) (xs : List K) → AllByRecursion (λ x. cmp w x ≡ Less) xs → filter (passes_after w) xs ≡ filter p xs
  all_after w [] a = refl
  all_after w (x ∷ xs) a = λ i. cond (is_lt (a.0 i) && p x) (x ∷ all_after w xs a.1 i) (all_after w xs a.1 i)

  at_end_of_rest : (x y : K) (xs : List K) (w : K) → slice_get (x ∷ y ∷ xs) (length (x ∷ y ∷ xs) - 1) ≡ Some w
      → slice_get (y ∷ xs) (length (y ∷ xs) - 1) ≡ Some w
  at_end_of_rest x y xs w is =
      let next : suc (length (y ∷ xs) - 1) ≡ length (x ∷ y ∷ xs) - 1 = omega arith in
      ap (slice_get (x ∷ y ∷ xs)) next ∙ is

  at_end : (x : K) (xs : List K) (w : K) → AllByRecursion (λ y. cmp x y ≡ Less) xs → slice_get xs (length xs - 1) ≡ Some w → cmp x w ≡ Less
  at_end x [] w a is = absurd cc
  at_end x (y ∷ []) w a is = subst (λ z. cmp x z ≡ Less) (cc is) a.0
  at_end x (y ∷ z ∷ xs) w a is = at_end x (z ∷ xs) w a.1 (at_end_of_rest y z xs w is)

  pub after_last : (xs ys : List K) (w : K) → IsStrictlySortedBy cmp (xs ++ ys) → slice_get xs (length xs - 1) ≡ Some w
      → filter (passes_after w) (xs ++ ys) ≡ filter p ys
  unfolding IsStrictlySortedBy
  after_last [] ys w r is = absurd cc
  after_last (x ∷ []) ys w r is =
      let here : x ≡ w = cc is in
      let tied : is_lt (cmp w x) ≡ false = subst (λ z. is_lt (cmp z x) ≡ false) here (ap is_lt (tied_itself o x)) in
      ap (λ b. cond (b && p x) (x ∷ filter (passes_after w) ys) (filter (passes_after w) ys)) tied
      ∙ all_after w ys (subst (λ z. AllByRecursion (λ y. cmp z y ≡ Less) ys) here r.0)
  after_last (x ∷ y ∷ xs) ys w r is =
      let rest : List K = (y ∷ xs) ++ ys in
      let here = at_end_of_rest x y xs w is in
      let before : cmp w x ≡ Greater =
      o.antisymm w x ∙ ap ordering_reverse (at_end x (y ∷ xs) w (each_front (λ z. cmp x z ≡ Less) (y ∷ xs) ys r.0) here) in
      ap (λ c. cond (is_lt c && p x) (x ∷ filter (passes_after w) rest) (filter (passes_after w) rest)) before ∙ after_last (y ∷ xs) ys w r.1 here

pub ranking_rises : (ts : List (List Placed)) → IsStrictlySortedBy reverse_key_cmp (ranking ts)
ranking_rises ts = strict_map reverse_key_of reverse_key_cmp (ranked_by_start start_of (enumerate_from 0 ts)) (ranked_rises start_of ts)

-- ---- one more key
module _ {X : Type 0} (p : X → Bool) (index : X → ℕ) (xs all rest : List X) (x : X) (split : all ≡ xs ++ x ∷ rest) where
  pub one_more : all ≡ (xs ++ x ∷ []) ++ rest
  one_more = split ∙ sym (append_assoc xs (x ∷ []) rest)

  pub one_match : p x ≡ true → map index (filter p (xs ++ x ∷ [])) ≡ map index (filter p xs) ++ index x ∷ []
  one_match e =
      ap (map index) (filter-append p xs (x ∷ []) ∙ ap (λ b. filter p xs ++ cond b (x ∷ []) []) e) ∙ map_push index (filter p xs) x

  pub no_match : p x ≡ false → map index (filter p (xs ++ x ∷ [])) ≡ map index (filter p xs)
  no_match e = ap (map index) (filter-append p xs (x ∷ []) ∙ ap (λ b. filter p xs ++ cond b (x ∷ []) []) e ∙ append-nil (filter p xs))

-- ---- how many match
pub fewer : {X : Type 0} (p : X → Bool) (xs : List X) → length (filter p xs) ≤ length xs
fewer p [] = omega arith
fewer p (x ∷ xs) = elim (p x) as (λ b. length (cond b (x ∷ filter p xs) (filter p xs)) ≤ suc (length xs)) [
  | true ↦ let h = fewer p xs in omega (arith, h)
  | false ↦ let h = fewer p xs in omega (arith, h)
]

-- ---- the answer
module _ (q : Find) (ts : List (List Placed)) (n : ℕ) (limited : q.limit ≡ n) (some : 0 < n) where
  abbrev all : List (Reverse Key)
  all = ranking ts

  -- the matches among those that start last
  abbrev latest : List (Reverse Key)
  latest = filter (is_match q ts) (take n all)

  matches_split : filter (is_match q ts) all ≡ latest ++ filter (is_match q ts) (drop n all)
  matches_split = ap (filter (is_match q ts)) (sym (take-append-drop n all)) ∙ filter-append (is_match q ts) (take n all) (drop n all)

  cut_some : (l : List (Reverse Key)) → cut q.limit l ≡ take n l
  cut_some l = ap (λ m. cut m l) limited ∙ by (n == 0) refl
    where
      by : (b : Bool) → (n == 0) ≡ b → (if b then l else take n l) ≡ take n l
      by true e = let none = eqb-true n 0 e in absurd (omega (arith, some, none))
      by false e = refl

  pub at_most : length (map reverse_key_index latest) ≤ n
  at_most = omega (arith, length-map latest reverse_key_index, fewer (is_match q ts) (take n all), length-take n all)

  answered : (more : ℕ) (others : List (Reverse Key)) → length latest + more ≡ n → others ≡ take more (filter (is_match q ts) (drop n all))
      → map reverse_key_index (latest ++ others) ≡ indices_found q ts
  answered more others full is =
      ap (λ l. map reverse_key_index (latest ++ l)) is
      ∙ ap (map reverse_key_index) (sym (take-append-add latest (filter (is_match q ts) (drop n all)) more))
      ∙ ap (λ m. map reverse_key_index (take m (latest ++ filter (is_match q ts) (drop n all)))) full
      ∙ ap (λ l. map reverse_key_index (take n l)) (sym matches_split)
      ∙ ap (map reverse_key_index) (sym (cut_some (filter (is_match q ts) all)))
      ∙ answer_ranked q ts

  -- all of the traces are among those
  pub all_latest : length (take n all) < n → map reverse_key_index latest ≡ indices_found q ts
  all_latest few =
      let short : length all < n = omega (arith, few, length-take n all) in
      let more : ℕ = n - length latest in
      let none : drop n all ≡ [] = drop_all n all (omega (arith, short)) in
      let count : length latest + more ≡ n = omega (arith, fewer (is_match q ts) (take n all), few) in
      ap (map reverse_key_index) (sym (append-nil latest))
      ∙ answered more [] count (sym (ap (λ l. take more (filter (is_match q ts) l)) none ∙ take-nil more))

  -- enough of them match
  pub enough_latest : length (map reverse_key_index latest) ≡ n → map reverse_key_index latest ≡ indices_found q ts
  enough_latest full =
      ap (map reverse_key_index) (sym (append-nil latest))
      ∙ answered 0 [] (omega (arith, full, length-map latest reverse_key_index)) refl

  -- the others are added
  pub others_added : (last : Key) (more : ℕ) → IsLast (take n all) last → length (map reverse_key_index latest) + more ≡ n
      → map reverse_key_index latest ++ map reverse_key_index (take more (filter (is_match_after q ts last) all)) ≡ indices_found q ts
  others_added last more is full =
      let after : filter (is_match_after q ts last) all ≡ filter (is_match q ts) (drop n all) =
      ap (filter (is_match_after q ts last)) (sym (take-append-drop n all))
      ∙ after_last reverse_total (is_match q ts) (take n all) (drop n all) (reversed last)
      (subst (IsStrictlySortedBy reverse_key_cmp) (sym (take-append-drop n all)) (ranking_rises ts)) is in
      sym (map-append reverse_key_index latest (take more (filter (is_match_after q ts last) all)))
      ∙ answered more (take more (filter (is_match_after q ts last) all)) (omega (arith, full, length-map latest reverse_key_index)) (ap (take more) after)
