-- A ranking has the same elements. It commutes with a map, and with a filter.
use Rattle.std.proofs.Common.{◌≡◌, ℤ, Bool, true, false, cond, List, [], ◌∷◌, refl, sym, ap, ◌∙◌, map, arith}
use Rattle.std.specs.Prelude.{int_lt, if◌then◌else◌, filter}
use Rattle.std.specs.List.{AllByRecursion}
use Rattle.std.specs.List.Sorted.{IsPermutation}
use Rattle.std.proofs.lemmas.Int.{ints}
use Rattle.std.proofs.lemmas.List.Elements.{All-filter, All-from_recursion, recursion_from_All}
use Rattle.std.proofs.lemmas.List.Sorted.{IsPermutation-refl, IsPermutation-cons, IsPermutation-trans, IsPermutation-middle}
use Rattle.trace_model.specs.Searching.{put_by_start, ranked_by_start, StartsFall}
use Rattle.trace_model.proofs.FallingStarts.{NoneLater, ranked-falls}

pub put-permutation : {X : Type 0} (start : X → ℤ) (x : X) (ys : List X) → IsPermutation (x ∷ ys) (put_by_start start x ys)
put-permutation start x [] = IsPermutation-refl (x ∷ [])
put-permutation start x (y ∷ ys) =
    elim (int_lt (start y) (start x)) as (λ b. IsPermutation (x ∷ y ∷ ys) (if b then x ∷ y ∷ ys else y ∷ put_by_start start x ys)) [
      | true ↦ IsPermutation-refl (x ∷ y ∷ ys)
      | false ↦ IsPermutation-trans _ _ _ (IsPermutation-middle (x ∷ []) y ys) (IsPermutation-cons y _ _ (put-permutation start x ys))
    ]

pub ranked-permutation : {X : Type 0} (start : X → ℤ) (xs : List X) → IsPermutation xs (ranked_by_start start xs)
ranked-permutation start [] = IsPermutation-refl []
ranked-permutation start (x ∷ xs) =
    IsPermutation-trans _ _ _ (IsPermutation-cons x _ _ (ranked-permutation start xs)) (put-permutation start x (ranked_by_start start xs))

-- a ranking by a function of what another function makes
pub ranked-map : {X Y : Type 0} (f : X → Y) (start : Y → ℤ) (xs : List X) → map f (ranked_by_start (λ x. start (f x)) xs) ≡ ranked_by_start start (map f xs)
ranked-map f start [] = refl
ranked-map {X} {Y} f start (x ∷ xs) = put_map (ranked_by_start (λ x. start (f x)) xs) ∙ ap (put_by_start start (f x)) (ranked-map f start xs)
  where
    put_map : (ys : List X) → map f (put_by_start (λ x. start (f x)) x ys) ≡ put_by_start start (f x) (map f ys)
    put_map [] = refl
    put_map (y ∷ ys) =
        elim (int_lt (start (f y)) (start (f x))) as (λ b. map f (if b then x ∷ y ∷ ys else y ∷ put_by_start (λ x. start (f x)) x ys)
        ≡ (if b then f x ∷ f y ∷ map f ys else f y ∷ put_by_start start (f x) (map f ys))) [
          | true ↦ refl
          | false ↦ ap (λ l. f y ∷ l) (put_map ys)
        ]

-- ---- a filtered ranking is the ranking of the filtered list
module _ {X : Type 0} (start : X → ℤ) (p : X → Bool) where
  -- all of ys start before x
  abbrev Behind : X → List X → Type 0
  Behind x ys = AllByRecursion (λ y. int_lt (start y) (start x) ≡ true) ys

  behind : (x y : X) (ys : List X) → int_lt (start y) (start x) ≡ true → NoneLater start y ys → Behind x ys
  behind x y [] l h = tt
  behind x y (z ∷ ys) l h = (under (start x) (start y) (start z) l h.0, behind x y ys l h.1)
    where
      under : (a b c : ℤ) → int_lt b a ≡ true → int_lt b c ≡ false → int_lt c a ≡ true
      under a b c p q = grind (arith, ints)

  put_front : (x : X) (ys : List X) → Behind x ys → put_by_start start x ys ≡ x ∷ ys
  put_front x [] h = refl
  put_front x (y ∷ ys) h = ap (λ b. if b then x ∷ y ∷ ys else y ∷ put_by_start start x ys) h.0

  behind_filter : (x : X) (ys : List X) → Behind x ys → Behind x (filter p ys)
  behind_filter x ys h =
      recursion_from_All (λ y. int_lt (start y) (start x) ≡ true) _
      (All-filter p (λ y. int_lt (start y) (start x) ≡ true) ys (All-from_recursion (λ y. int_lt (start y) (start x) ≡ true) ys h))

  filter_put_in : (x : X) (ys : List X) → p x ≡ true → StartsFall start ys → filter p (put_by_start start x ys) ≡ put_by_start start x (filter p ys)
  filter_put_in x [] e h = let none : List X = [] in ap (λ b. cond b (x ∷ none) none) e
  filter_put_in x (y ∷ ys) e h =
      elim (int_lt (start y) (start x)) as (λ l. int_lt (start y) (start x) ≡ l
      → filter p (if l then x ∷ y ∷ ys else y ∷ put_by_start start x ys) ≡ put_by_start start x (filter p (y ∷ ys))) [
        | true ↦ λ l.
            ap (λ b. cond b (x ∷ filter p (y ∷ ys)) (filter p (y ∷ ys))) e
            ∙ sym (put_front x (filter p (y ∷ ys)) (behind_filter x (y ∷ ys) (l, behind x y ys l h.0)))
        | false ↦ λ l. elim (p y) as (λ b. cond b (y ∷ filter p (put_by_start start x ys)) (filter p (put_by_start start x ys))
            ≡ put_by_start start x (cond b (y ∷ filter p ys) (filter p ys))) [
              | true ↦ ap (λ r. y ∷ r) (filter_put_in x ys e h.1) ∙ ap (λ b. if b then x ∷ y ∷ filter p ys else y ∷ put_by_start start x (filter p ys)) (sym l)
              | false ↦ filter_put_in x ys e h.1
            ]
      ] refl

  filter_put_out : (x : X) (ys : List X) → p x ≡ false → filter p (put_by_start start x ys) ≡ filter p ys
  filter_put_out x [] e = let none : List X = [] in ap (λ b. cond b (x ∷ none) none) e
  filter_put_out x (y ∷ ys) e =
      elim (int_lt (start y) (start x)) as (λ l. filter p (if l then x ∷ y ∷ ys else y ∷ put_by_start start x ys) ≡ filter p (y ∷ ys)) [
        | true ↦ ap (λ b. cond b (x ∷ filter p (y ∷ ys)) (filter p (y ∷ ys))) e
        | false ↦ ap (λ r. cond (p y) (y ∷ r) r) (filter_put_out x ys e)
      ]

  -- to rank and then choose is to choose and then rank
  pub ranked-filter : (xs : List X) → filter p (ranked_by_start start xs) ≡ ranked_by_start start (filter p xs)
  ranked-filter [] = refl
  ranked-filter (x ∷ xs) =
      elim (p x) as (λ b. p x ≡ b → filter p (put_by_start start x (ranked_by_start start xs))
      ≡ ranked_by_start start (cond b (x ∷ filter p xs) (filter p xs))) [
        | true ↦ λ e. filter_put_in x (ranked_by_start start xs) e (ranked-falls start xs) ∙ ap (put_by_start start x) (ranked-filter xs)
        | false ↦ λ e. filter_put_out x (ranked_by_start start xs) e ∙ ranked-filter xs
      ] refl
