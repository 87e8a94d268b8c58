-- A list that is sorted and has no duplicates is a sorted set.
use Rattle.std.proofs.Common.{◌≡◌, Bool, true, false, ◌||◌, List, [], ◌∷◌, cond, refl, sym, ap, ◌∙◌}
use Rattle.std.specs.List.{list_any, dedup, dedup_from}
use Rattle.std.specs.List.Retain.{IsFiltered, DiffersFromLast}
use Rattle.std.specs.List.Sorted.{IsSorted, IsPermutation}
use Rattle.std.specs.Cmp.{IsTotalOrder}
use Rattle.std.specs.FinMap.{IsAntisymmetric}
use Rattle.std.specs.Ordering.{eq_by_cmp}
use Rattle.std.specs.declared.cmp.Ordering.{Ordering}
use Rattle.std.proofs.lemmas.List.Kept.{IsStrictlySortedBy-dedup}
use Rattle.std.proofs.lemmas.List.Filters.{dedup_is}
use Rattle.std.proofs.lemmas.List.Sorted.{list_any-IsPermutation}
use Rattle.jaeger_model.specs.Texts.{sorted_set}
use Rattle.service_index.proofs.LabelProbes.{is_equal}
use Rattle.service_index.proofs.ListedSets.{is_set}
use Rattle.trace_model.proofs.SortedSets.{or_again}

module _ {K : Type 0} {cmp : K → K → Ordering} (o : IsTotalOrder cmp) (exact : IsAntisymmetric cmp) {same : K → K → Bool}
    (ties : (x y : K) → same x y ≡ eq_by_cmp cmp x y) where
  any_from : (p : K → Bool) (k : K) (xs : List K) → list_any p (dedup_from same k xs) ≡ (p k || list_any p xs)
  any_from p k [] = refl
  any_from p k (x ∷ xs) =
      elim (same x k) as (λ b. same x k ≡ b → list_any p (cond b (dedup_from same k xs) (k ∷ dedup_from same x xs)) ≡ (p k || (p x || list_any p xs))) [
        | true ↦ λ e. any_from p k xs ∙ or_again (p k) (list_any p xs)
            ∙ ap (λ z. p k || (p z || list_any p xs)) (sym (exact x k (is_equal (cmp x k) (sym (ties x k) ∙ e))))
        | false ↦ λ e. ap (λ b. p k || b) (any_from p x xs)
      ] refl

  any_dedup : (p : K → Bool) (xs : List K) → list_any p (dedup same xs) ≡ list_any p xs
  any_dedup p [] = refl
  any_dedup p (x ∷ xs) = any_from p x xs

  pub sorted_once : (xs ys zs : List K) → IsPermutation xs ys → IsSorted cmp ys → IsFiltered (DiffersFromLast same) [] ys zs → zs ≡ sorted_set cmp xs
  sorted_once xs ys zs moved sorted filtered =
      dedup_is same ys zs filtered ∙ is_set o exact (dedup same ys) xs (IsStrictlySortedBy-dedup o ties ys sorted)
      (λ p. any_dedup p ys ∙ sym (list_any-IsPermutation p xs ys moved))
