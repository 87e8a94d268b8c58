-- A strictly ascending list is determined by its members, and so by any list that has its elements in another
-- order.
use Rattle.std.proofs.Common.{◌≡◌, suc, ◌+◌, false, List, [], ◌∷◌, get_or, refl, sym, ap, subst, ◌∙◌, arith}
use Rattle.std.specs.List.{IsDistinct}
use Rattle.std.specs.List.Sorted.{IsSorted, IsStrictlySortedBy, IsPermutation}
use Rattle.std.specs.declared.cmp.Ordering.{Ordering}
use Rattle.std.specs.declared.cmp.Ordering.TheVariants.{Less, Equal, Greater}
use Rattle.std.specs.Ordering.{eq_by_cmp, is_eq, is_lt, ordering_reverse}
use Rattle.std.specs.Cmp.{IsTotalOrder}
use Rattle.std.specs.FinMap.{IsAntisymmetric}
use Rattle.std.proofs.lemmas.List.Elements.{All-from_recursion, recursion_from_All}
use Rattle.std.proofs.lemmas.List.Sorted.{list_any-IsPermutation, ranks_by, sorted_far}
use Rattle.std.proofs.lemmas.Map.Keys.{IsDistinct-IsPermutation, IsDistinct-from_sorted}
use Rattle.trace_model.proofs.SortedSets.{rises_same}
use Rattle.trace_model.proofs.NameLaws.{is_eq-reverse}

module _ {K : Type 0} {cmp : K → K → Ordering} (o : IsTotalOrder cmp) (exact : IsAntisymmetric cmp) where
  less : (r : Ordering) → is_lt (ordering_reverse r) ≡ false → is_eq r ≡ false → r ≡ Less
  less Less l e = refl
  less Equal l e = absurd cc
  less Greater l e = absurd cc

  tail_sorted : (x : K) (xs : List K) → IsSorted cmp (x ∷ xs) → IsSorted cmp xs
  tail_sorted x xs h k d low high =
      let next : suc k + 1 ≡ suc (k + 1) = omega arith in
      let up : is_lt (cmp (get_or (x ∷ xs) (suc k + 1) d) (get_or (x ∷ xs) (suc k) d)) ≡ false = h (suc k) d (omega arith) (omega arith) in
      subst (λ n. is_lt (cmp (get_or (x ∷ xs) n d) (get_or xs k d)) ≡ false) next up

  strictly : (xs : List K) → IsSorted cmp xs → IsDistinct (eq_by_cmp cmp) xs → IsStrictlySortedBy cmp xs
  unfolding IsStrictlySortedBy IsDistinct
  strictly [] s d = tt
  strictly (x ∷ xs) s d = (
    recursion_from_All (λ y. cmp x y ≡ Less) xs (λ k e h.
        let far : is_lt (cmp (get_or (x ∷ xs) (suc k) e) (get_or (x ∷ xs) 0 e)) ≡ false =
        sorted_far (λ a b. is_lt (cmp a b)) (ranks_by o (λ y. y)) (x ∷ xs) s 0 (suc k) e (omega arith) (omega arith) in
        let apart : is_eq (cmp x (get_or xs k e)) ≡ false = All-from_recursion (λ y. eq_by_cmp cmp x y ≡ false) xs d.0 k e h in
        less (cmp x (get_or xs k e)) (ap is_lt (sym (o.antisymm (get_or xs k e) x)) ∙ far) apart),
    strictly xs (tail_sorted x xs s) d.1,
  )

  pub flips : (x y : K) → eq_by_cmp cmp x y ≡ eq_by_cmp cmp y x
  flips x y = ap is_eq (o.antisymm x y) ∙ is_eq-reverse (cmp y x)

  pub distinct_moved : (xs ys : List K) → IsStrictlySortedBy cmp xs → IsPermutation xs ys → IsDistinct (eq_by_cmp cmp) ys
  distinct_moved xs ys strict moved = IsDistinct-IsPermutation (eq_by_cmp cmp) flips xs ys moved (IsDistinct-from_sorted cmp xs strict)

  -- the result of a sort
  pub sorted_is : (xs ys : List K) → IsStrictlySortedBy cmp xs → IsPermutation xs ys → IsSorted cmp ys → ys ≡ xs
  sorted_is xs ys strict moved sorted =
      rises_same o exact ys xs (strictly ys sorted (distinct_moved xs ys strict moved)) strict (λ q. sym (list_any-IsPermutation (eq_by_cmp cmp q) xs ys moved))
