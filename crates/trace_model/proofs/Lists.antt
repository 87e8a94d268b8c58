-- Lists: what holds of each item, what is at an index, and one item more.
use Rattle.std.proofs.Common.{◌≡◌, ℕ, zero, suc, ◌+◌, ◌<◌, nat_lt, Bool, true, false, cond, List, [], ◌∷◌, ◌++◌, map, length, take, get_or, refl, sym, ap, ◌∙◌}
use Rattle.std.proofs.Common.{arith, inl, inr, Some, None, slice_get}
use Rattle.std.specs.Prelude.{Option, option_map, is_some, find, filter_map, not, ◌==◌, if◌then◌else◌}
use Rattle.std.specs.List.{All, AllByRecursion, cons_option, list_any, position, position_or_len}
use Rattle.std.proofs.lemmas.Bool.{false≢true, lt-ltb, le-ltb, cases_lt}
use Rattle.std.proofs.lemmas.Bool.Decides.{nat_tests}
use Rattle.std.proofs.lemmas.List.{take_more, append-nil}
use Rattle.std.proofs.lemmas.List.Sums.{passes_at_first, fails_before_first}
use Rattle.std.proofs.lemmas.List.Folds.{list_any_at, list_any_none}
use Rattle.std.proofs.lemmas.List.Elements.{All-head, All-tail, All-take, filter_map-append}
use Rattle.trace_model.specs.Searching.{cut}

-- ---- what holds of each
pub map_agree : {X Y : Type 0} (f g : X → Y) (xs : List X) → All (λ x. f x ≡ g x) xs → map f xs ≡ map g xs
map_agree f g [] h = refl
map_agree f g (x ∷ xs) h =
    let first = All-head (λ x. f x ≡ g x) x xs h in
    let rest = map_agree f g xs (All-tail (λ x. f x ≡ g x) x xs h) in
    λ i. first i ∷ rest i

pub all_cut : {X : Type 0} (P : X → Type 0) (n : ℕ) (xs : List X) → All P xs → All P (cut n xs)
all_cut P n xs h = elim (n == 0) as (λ b. All P (if b then xs else take n xs)) [ true ↦ h | false ↦ All-take P n xs h ]

module _ {X : Type 0} (P : X → Type 0) where
  pub each_append : (xs ys : List X) → AllByRecursion P xs → AllByRecursion P ys → AllByRecursion P (xs ++ ys)
  each_append [] ys h k = k
  each_append (x ∷ xs) ys h k = (h.0, each_append xs ys h.1 k)

  pub each_front : (xs ys : List X) → AllByRecursion P (xs ++ ys) → AllByRecursion P xs
  each_front [] ys h = tt
  each_front (x ∷ xs) ys h = (h.0, each_front xs ys h.1)

  pub each_behind : (xs ys : List X) → AllByRecursion P (xs ++ ys) → AllByRecursion P ys
  each_behind [] ys h = h
  each_behind (x ∷ xs) ys h = each_behind xs ys h.1

-- ---- whether one passes
-- the first place that passes is one of the places that pass
pub is_position : {X : Type 0} (p : X → Bool) (xs : List X) (d : X) → nat_lt (position_or_len p xs) (length xs) ≡ list_any p xs
is_position p xs d = elim (cases_lt (position_or_len p xs) (length xs)) [
  | inl below ↦ lt-ltb (position_or_len p xs) (length xs) below ∙ sym (list_any_at p xs (position_or_len p xs) d below (passes_at_first p xs d below))
  | inr past ↦ le-ltb (position_or_len p xs) (length xs) past ∙ sym (list_any_none p xs (λ k e within. fails_before_first p xs k e (omega arith)))
]

pub place_is_any : {X : Type 0} (p : X → Bool) (xs : List X) → is_some (position p xs) ≡ list_any p xs
place_is_any p [] = refl
place_is_any p (x ∷ xs) = there (nat_lt (position_or_len p (x ∷ xs)) (length (x ∷ xs))) ∙ is_position p (x ∷ xs) x
  where
    there : (b : Bool) → is_some (cond b (Some (position_or_len p (x ∷ xs))) None) ≡ b
    there true = refl
    there false = refl

pub none_is : {X : Type 0} (o : Option X) → is_some o ≡ false → o ≡ None
none_is None e = refl
none_is (Some x) e = absurd (false≢true (sym e))

-- ---- what is at an index
-- the list before an item, and the list after it
pub split_at : {X : Type 0} (list : List X) (n : ℕ) (x : X) → slice_get list n ≡ Some x → (before : List X) × (after : List X) × (list ≡ before ++ x ∷ after)
    × (n ≡ length before)
split_at [] n x h = absurd cc
split_at (y ∷ list) zero x h = ([], list, cc h, refl)
split_at (y ∷ list) (suc n) x h = let r = split_at list n x h in let long = r.3 in (y ∷ r.0, r.1, cc (r.2), omega (arith, long))

zero_first : (m : ℕ) → nat_lt 0 (suc m) ≡ true
zero_first m = grind (arith, nat_tests)

one_later : (n m : ℕ) → nat_lt (1 + n) (suc m) ≡ nat_lt n m
one_later n m = grind (arith, nat_tests)

-- the item at the first place that passes
pub found_at : {X : Type 0} (t : X → Bool) (xs : List X) (d : X) → option_map (λ j. get_or xs j d) (position t xs) ≡ find t xs
found_at t [] d = refl
found_at {X} t (x ∷ xs) d =
    elim (t x) as (λ b. option_map
    (λ j. get_or (x ∷ xs) j d) (cond (nat_lt (cond (not b) (1 + position_or_len t xs) 0) (suc (length xs)))
    (Some (cond (not b) (1 + position_or_len t xs) 0)) None) ≡ cond b (Some x) (find t xs)) [
      | true ↦ ap (λ c. option_map (λ j. get_or (x ∷ xs) j d) (cond c (Some 0) None)) (zero_first (length xs))
      | false ↦ ap (λ c. option_map (λ j. get_or (x ∷ xs) j d) (cond c (Some (1 + position_or_len t xs)) None)) (one_later (position_or_len t xs) (length xs))
          ∙ past (nat_lt (position_or_len t xs) (length xs)) ∙ found_at t xs d
    ]
  where
    past : (b : Bool) → option_map (λ j. get_or (x ∷ xs) j d) (cond b (Some (1 + position_or_len t xs)) None) ≡ option_map
        (λ j. get_or xs j d) (cond b (Some (position_or_len t xs)) None)
    past false = refl
    past true = let e : 1 + position_or_len t xs ≡ suc (position_or_len t xs) = omega arith in ap (λ k. Some (get_or (x ∷ xs) k d)) e

-- ---- what each item yields, with one item more
module _ {X Y : Type 0} (f : X → Option Y) where
  pub kept_some : (xs : List X) (x : X) (y : Y) → f x ≡ Some y → filter_map f (xs ++ x ∷ []) ≡ filter_map f xs ++ y ∷ []
  kept_some xs x y e = filter_map-append f xs (x ∷ []) ∙ ap (λ o. filter_map f xs ++ cons_option o []) e

  pub kept_none : (xs : List X) (x : X) → f x ≡ None → filter_map f (xs ++ x ∷ []) ≡ filter_map f xs
  kept_none xs x e = filter_map-append f xs (x ∷ []) ∙ ap (λ o. filter_map f xs ++ cons_option o []) e ∙ append-nil (filter_map f xs)

  pub read_some : (xs : List X) (i : ℕ) (d : X) (y : Y) → i < length xs → f (get_or xs i d) ≡ Some y
      → filter_map f (take (i + 1) xs) ≡ filter_map f (take i xs) ++ y ∷ []
  read_some xs i d y h e = ap (filter_map f) (take_more xs i d h) ∙ kept_some (take i xs) (get_or xs i d) y e

  pub read_none : (xs : List X) (i : ℕ) (d : X) → i < length xs → f (get_or xs i d) ≡ None → filter_map f (take (i + 1) xs) ≡ filter_map f (take i xs)
  read_none xs i d h e = ap (filter_map f) (take_more xs i d h) ∙ kept_none (take i xs) (get_or xs i d) e
