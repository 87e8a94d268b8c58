-- Of equal starts in a ranking, the later one of the list comes first.
use Rattle.std.proofs.Common.{◌≡◌, ℤ, true, false, List, [], ◌∷◌, ◌++◌, refl, sym, ap, ◌∙◌, cond, reverse, arith}
use Rattle.std.specs.Prelude.{int_lt, if◌then◌else◌}
use Rattle.std.specs.Ordering.{int_eq}
use Rattle.std.specs.List.{AllByRecursion}
use Rattle.std.proofs.lemmas.List.{reverse-append}
use Rattle.std.proofs.lemmas.List.Elements.{filter_passes, recursion_from_All}
use Rattle.std.proofs.lemmas.Int.{ints}
use Rattle.trace_model.specs.Searching.{put_by_start, ranked_by_start, starting_at}
use Rattle.trace_model.proofs.RankedLists.{ranked-filter}

module _ {X : Type 0} (start : X → ℤ) (s : ℤ) where
  abbrev AllAt : List X → Type 0
  AllAt xs = AllByRecursion (λ x. int_eq (start x) s ≡ true) xs

  not_earlier : (a b : ℤ) → int_eq a s ≡ true → int_eq b s ≡ true → int_lt b a ≡ false
  not_earlier a b e f = grind (arith, ints)

  put_last : (x : X) (ys : List X) → int_eq (start x) s ≡ true → AllAt ys → put_by_start start x ys ≡ ys ++ x ∷ []
  put_last x [] e h = refl
  put_last x (y ∷ ys) e h =
      ap (λ b. if b then x ∷ y ∷ ys else y ∷ put_by_start start x ys) (not_earlier (start x) (start y) e h.0) ∙ ap (λ l. y ∷ l) (put_last x ys e h.1)

  all_at : (xs : List X) → AllAt (starting_at start s xs)
  all_at xs = recursion_from_All (λ x. int_eq (start x) s ≡ true) _ (filter_passes (λ x. int_eq (start x) s) xs)

  -- of equal starts the later one of the list comes first
  pub ranked-tied : (xs : List X) → starting_at start s (ranked_by_start start xs) ≡ reverse (starting_at start s xs)
  ranked-tied [] = refl
  ranked-tied (x ∷ xs) =
      ranked-filter start (λ x. int_eq (start x) s) (x ∷ xs)
      ∙ elim (int_eq (start x) s) as (λ b. int_eq (start x) s ≡ b
      → ranked_by_start start (cond b (x ∷ starting_at start s xs) (starting_at start s xs))
      ≡ reverse (cond b (x ∷ starting_at start s xs) (starting_at start s xs))) [
        | true ↦ λ e.
            ap (put_by_start start x) (sym (ranked-filter start (λ x. int_eq (start x) s) xs))
            ∙ put_last x (starting_at start s (ranked_by_start start xs)) e (all_at (ranked_by_start start xs))
            ∙ ap (λ r. r ++ x ∷ []) (ranked-tied xs) ∙ sym (reverse-append (x ∷ []) (starting_at start s xs))
        | false ↦ λ e. sym (ranked-filter start (λ x. int_eq (start x) s) xs) ∙ ranked-tied xs
      ] refl
