-- Numbered elements, once ranked, are in strictly ascending order by start and then index, best first.
use Rattle.std.proofs.Common.{◌≡◌, ℕ, ℤ, ◌+◌, ◌<◌, ◌≤◌, true, false, cond, List, [], ◌∷◌, map, refl, sym, ap, ◌∙◌, arith}
use Rattle.std.specs.Prelude.{if◌then◌else◌, ◌==◌, int_lt}
use Rattle.std.specs.List.{AllByRecursion, enumerate_from}
use Rattle.std.specs.List.Sorted.{IsStrictlySortedBy}
use Rattle.std.specs.declared.cmp.Ordering.{Ordering}
use Rattle.std.specs.declared.cmp.Reverse.{Reverse}
use Rattle.std.specs.declared.cmp.Ordering.TheVariants.{Less, Equal, Greater}
use Rattle.std.specs.Ordering.{ordering_then, int_cmp, nat_cmp}
use Rattle.std.specs.Cmp.{IsTotalOrder, on_total}
use Rattle.std.specs.FinMap.{IsAntisymmetric, nat_cmp-IsAntisymmetric, int_cmp-IsAntisymmetric}
use Rattle.std.proofs.lemmas.Cmp.{then_total, back_total, int_cmp_total, nat_cmp_total}
use Rattle.std.proofs.lemmas.Bool.{lt-ltb}
use Rattle.std.proofs.lemmas.List.Elements.{All-from_recursion, recursion_from_All}
use Rattle.std.proofs.lemmas.List.Sorted.{All-permutation}
use Rattle.trace_model.specs.Searching.{put_by_start, ranked_by_start}
use Rattle.trace_model.proofs.RankedLists.{ranked-permutation}
use Rattle.trace_model.proofs.NameLaws.{both_equal}
use Rattle.trace_model.proofs.SortedSets.{Below, below_chain}
use Rattle.find_traces.specs.declared.key.Key.{Key}
use Rattle.find_traces.specs.Keys.{best_cmp, reverse_key_cmp}

pub best_total : IsTotalOrder best_cmp
best_total = then_total (on_total (λ (k : Key). k.start) (back_total int_cmp_total)) (on_total (λ (k : Key). k.index) (back_total nat_cmp_total))

pub best_exact : IsAntisymmetric best_cmp
best_exact a b e = both_equal (int_cmp b.start a.start) (nat_cmp b.index a.index) e (λ s p.
    let ss : b.start ≡ a.start = int_cmp-IsAntisymmetric b.start a.start s in
    let ps : b.index ≡ a.index = nat_cmp-IsAntisymmetric b.index a.index p in
    λ i. record { start = sym ss i; index = sym ps i })

pub reverse_total : IsTotalOrder reverse_key_cmp
reverse_total = on_total (λ (r : Reverse Key). r.0) best_total

pub reverse_exact : IsAntisymmetric reverse_key_cmp
reverse_exact a b e = λ i. record { 0 = best_exact a.0 b.0 e i }

module _ {X : Type 0} (start : ℕ × X → ℤ) where
  -- latest start first, and of equal starts the later index first
  abbrev pub rank_cmp : ℕ × X → ℕ × X → Ordering
  rank_cmp a b = ordering_then (int_cmp (start b) (start a)) (nat_cmp b.0 a.0)

  pub rank_total : IsTotalOrder rank_cmp
  rank_total = then_total (on_total start (back_total int_cmp_total)) (on_total (λ (e : ℕ × X). e.0) (back_total nat_cmp_total))

  abbrev pub After : ℕ × X → List (ℕ × X) → Type 0
  After x es = AllByRecursion (λ (e : ℕ × X). x.0 < e.0) es

  abbrev IndicesRise : List (ℕ × X) → Type 0
  IndicesRise [] = Unit {0}
  IndicesRise (x ∷ es) = After x es × IndicesRise es

  pub earlier : (x y : ℕ × X) → int_lt (start y) (start x) ≡ true → rank_cmp x y ≡ Less
  earlier x y e = ap (λ b. ordering_then (cond b Less (cond (int_lt (start x) (start y)) Greater Equal)) (nat_cmp y.0 x.0)) e

  pub later : (x y : ℕ × X) → int_lt (start y) (start x) ≡ false → x.0 < y.0 → rank_cmp y x ≡ Less
  later x y e h =
      elim (int_lt (start x) (start y)) as (λ b. ordering_then (cond b Less (cond (int_lt (start y) (start x)) Greater Equal)) (nat_cmp x.0 y.0) ≡ Less) [
        | true ↦ refl
        | false ↦
            ap (λ b. ordering_then (cond b Greater Equal) (nat_cmp x.0 y.0)) e
            ∙ ap (λ b. cond b Less (cond (x.0 == y.0) Equal Greater)) (lt-ltb x.0 y.0 h)
      ]

  below_put : (y x : ℕ × X) (es : List (ℕ × X)) → rank_cmp y x ≡ Less → Below rank_cmp y es → Below rank_cmp y (put_by_start start x es)
  below_put y x [] e h = (e, tt)
  below_put y x (z ∷ es) e h = elim (int_lt (start z) (start x)) as (λ b. Below rank_cmp y (if b then x ∷ z ∷ es else z ∷ put_by_start start x es)) [
    | true ↦ (e, h)
    | false ↦ (h.0, below_put y x es e h.1)
  ]

  strict_put : (x : ℕ × X) (es : List (ℕ × X)) → After x es → IsStrictlySortedBy rank_cmp es → IsStrictlySortedBy rank_cmp (put_by_start start x es)
  unfolding IsStrictlySortedBy
  strict_put x [] a h = (tt, tt)
  strict_put x (y ∷ es) a h =
      elim (int_lt (start y) (start x)) as (λ b. int_lt (start y) (start x) ≡ b
      → IsStrictlySortedBy rank_cmp (if b then x ∷ y ∷ es else y ∷ put_by_start start x es)) [
        | true ↦ λ e. ((earlier x y e, below_chain rank_total x y es (earlier x y e) h.0), h)
        | false ↦ λ e. (below_put y x es (later x y e a.0) h.0, strict_put x es a.1 h.1)
      ] refl

  strict_ranked : (es : List (ℕ × X)) → IndicesRise es → IsStrictlySortedBy rank_cmp (ranked_by_start start es)
  unfolding IsStrictlySortedBy
  strict_ranked [] r = tt
  strict_ranked (x ∷ es) r =
      strict_put x (ranked_by_start start es)
      (recursion_from_All (λ (e : ℕ × X). x.0 < e.0) _
      (All-permutation (λ (e : ℕ × X). x.0 < e.0) es (ranked_by_start start es) (ranked-permutation start es)
      (All-from_recursion (λ (e : ℕ × X). x.0 < e.0) es r.0)))
      (strict_ranked es r.1)

  -- the indices of what is numbered are ascending
  weaker : (n : ℕ) (es : List (ℕ × X)) → AllByRecursion (λ (e : ℕ × X). n + 1 ≤ e.0) es → AllByRecursion (λ (e : ℕ × X). n ≤ e.0) es
  weaker n [] a = tt
  weaker n (x ∷ es) a = (let b = a.0 in omega arith, weaker n es a.1)

  above : (n : ℕ) (es : List (ℕ × X)) → AllByRecursion (λ (e : ℕ × X). n + 1 ≤ e.0) es → AllByRecursion (λ (e : ℕ × X). n < e.0) es
  above n [] a = tt
  above n (x ∷ es) a = (let b = a.0 in omega arith, above n es a.1)

  indices_above : (n : ℕ) (xs : List X) → AllByRecursion (λ (e : ℕ × X). n ≤ e.0) (enumerate_from n xs)
  indices_above n [] = tt
  indices_above n (x ∷ xs) = (omega arith, weaker n (enumerate_from (n + 1) xs) (indices_above (n + 1) xs))

  indices_rise : (n : ℕ) (xs : List X) → IndicesRise (enumerate_from n xs)
  indices_rise n [] = tt
  indices_rise n (x ∷ xs) = (above n (enumerate_from (n + 1) xs) (indices_above (n + 1) xs), indices_rise (n + 1) xs)

  -- those that are numbered from the next number on
  pub places_after : (x : ℕ × X) (xs : List X) → After x (enumerate_from (x.0 + 1) xs)
  places_after x xs = above x.0 (enumerate_from (x.0 + 1) xs) (indices_above (x.0 + 1) xs)

  pub ranked_rises : (xs : List X) → IsStrictlySortedBy rank_cmp (ranked_by_start start (enumerate_from 0 xs))
  ranked_rises xs = strict_ranked (enumerate_from 0 xs) (indices_rise 0 xs)

-- ---- and so does what they are mapped to, if that is in the same order
module _ {X Y : Type 0} (f : X → Y) (cmp : Y → Y → Ordering) where
  abbrev through : X → X → Ordering
  through a b = cmp (f a) (f b)

  below_map : (x : X) (xs : List X) → Below through x xs → Below cmp (f x) (map f xs)
  below_map x [] h = tt
  below_map x (y ∷ ys) h = (h.0, below_map x ys h.1)

  pub strict_map : (xs : List X) → IsStrictlySortedBy through xs → IsStrictlySortedBy cmp (map f xs)
  unfolding IsStrictlySortedBy
  strict_map [] h = tt
  strict_map (x ∷ xs) h = (below_map x xs h.0, strict_map xs h.1)
