-- The number of the trace's spans is enough steps for each chain that ends.
use Rattle.std.proofs.Common.{◌≡◌, ℕ, zero, suc, ◌+◌, ◌<◌, ◌≤◌, Bool, true, false, List, [], ◌∷◌, ◌++◌, length, get_or, refl, sym, ap, ◌∙◌, arith, cond, subst}
use Rattle.std.proofs.Common.{◌⊎◌, inl, inr, ⊎_elim, pos}
use Rattle.std.specs.Prelude.{Option, Some, None, is_some, option_map, option_and_then, find, if◌then◌else◌, ◌==◌}
use Rattle.std.proofs.lemmas.Bool.{false≢true}
use Rattle.std.proofs.lemmas.List.Sums.{fold_push}
use Rattle.jaeger_model.specs.declared.placed.Placed.{Placed}
use Rattle.jaeger_model.specs.Parents.{parent}
use Rattle.trace_model.specs.ServiceLinks.{has_id, parent_in, place_of_parent}
use Rattle.std.specs.List.{AllByRecursion, position}
use Rattle.trace_model.specs.Adjusting.{chain, chain_through, clock_within, clock_of, clock_along, clock_below, clock_at, host_of}
use Rattle.trace_model.specs.AdjustingTerms.{clock_by}
use Rattle.trace_model.proofs.Lists.{none_is, found_at}
use Rattle.std.proofs.lemmas.Option.{same_Some, none-some}
use Rattle.std.proofs.lemmas.List.Quantifiers.{position-Some}

-- what is found has what each item has
pub found_has : {X : Type 0} (P : X → Type 0) (t : X → Bool) (xs : List X) (y : X) → find t xs ≡ Some y → AllByRecursion P xs → P y
found_has P t [] y e h = absurd (false≢true (ap is_some e))
found_has {X} P t (x ∷ xs) y e h = elim (t x) as (λ b. cond b (Some x) (find t xs) ≡ Some y → P y) [
  | true ↦ λ e. subst P (same_Some x y e) h.0
  | false ↦ λ e. found_has P t xs y e h.1
] e

pub parent_has : (P : Placed → Type 0) (trace : List Placed) (p q : Placed) → parent_in trace p ≡ Some q → AllByRecursion P trace → P q
parent_has P trace p q e h = elim ((parent p.span).0 == 0) as (λ b. (if b then None else find (has_id (parent p.span)) trace) ≡ Some q → P q) [
  | true ↦ λ e. absurd (false≢true (ap is_some e))
  | false ↦ λ e. found_has P (has_id (parent p.span)) trace q e h
] e

-- the span at the parent's place is the parent
pub parent_there : (trace : List Placed) (p d : Placed) → option_map (λ j. get_or trace j d) (place_of_parent trace p) ≡ parent_in trace p
parent_there trace p d =
    elim ((parent p.span).0 == 0) as (λ b. option_map
    (λ j. get_or trace j d) (if b then None else position (has_id (parent p.span)) trace) ≡ (if b then None else find (has_id (parent p.span)) trace)) [
      | true ↦ refl
      | false ↦ found_at (has_id (parent p.span)) trace d
    ]

pub parent_within : (trace : List Placed) (p : Placed) (j : ℕ) → place_of_parent trace p ≡ Some j → j < length trace
parent_within trace p j e = elim ((parent p.span).0 == 0) as (λ b. (if b then None else position (has_id (parent p.span)) trace) ≡ Some j → j < length trace) [
  | true ↦ λ e. absurd (none-some j e)
  | false ↦ λ e. (position-Some (has_id (parent p.span)) trace j p e).0
] e

pub chain_step : (n : ℕ) (trace : List Placed) (p : Placed) → chain (suc n) trace p ≡ chain_through p (λ q. chain n trace q) (parent_in trace p)
unfolding chain
chain_step n trace p = refl

pub chain_none : (trace : List Placed) (p : Placed) → chain 0 trace p ≡ None
unfolding chain
chain_none trace p = refl

pub is_some-map : {X Y : Type 0} (f : X → Y) (o : Option X) → is_some (option_map f o) ≡ is_some o
is_some-map f None = refl
is_some-map f (Some x) = refl

module _ (trace : List Placed) where
  abbrev ended : ℕ → Placed → Bool
  ended n p = is_some (chain n trace p)

  through_ended : (p : Placed) (up : Placed → Option (List Placed)) (o : Option Placed) (q : Placed) → o ≡ Some q
      → is_some (chain_through p up o) ≡ is_some (up q)
  through_ended p up o q e = ap (λ x. is_some (chain_through p up x)) e ∙ is_some-map _ (up q)

  -- one more step changes no chain that has ended
  pub settled : (n : ℕ) (p : Placed) → ended n p ≡ true → chain (suc n) trace p ≡ chain n trace p
  settled zero p e = absurd (false≢true (ap is_some (sym (chain_none trace p)) ∙ e))
  settled (suc n) p e =
      chain_step (suc n) trace p
      ∙ elim (parent_in trace p) as (λ o. is_some (chain_through p (λ q. chain n trace q) o) ≡ true
      → chain_through p (λ q. chain (suc n) trace q) o ≡ chain_through p (λ q. chain n trace q) o) [
        | None ↦ λ e. refl
        | Some q ↦ λ e. ap (option_map (λ above. above ++ p ∷ [])) (settled n q (sym (is_some-map _ (chain n trace q)) ∙ e))
      ] (ap is_some (sym (chain_step n trace p)) ∙ e)
      ∙ sym (chain_step n trace p)

  abbrev Same : ℕ → Placed → Type 0
  Same n q = ended (suc n) q ≡ ended n q

  -- if one more step ends no further chain of the trace, no later step does
  still : (n : ℕ) → AllByRecursion (Same n) trace → (p : Placed) → Same (suc n) p
  still n h p =
      ap is_some (chain_step (suc n) trace p)
      ∙ elim (parent_in trace p) as (λ o. parent_in trace p ≡ o
      → is_some (chain_through p (λ q. chain (suc n) trace q) o) ≡ is_some (chain_through p (λ q. chain n trace q) o)) [
        | None ↦ λ e. refl
        | Some q ↦ λ e. is_some-map _ (chain (suc n) trace q) ∙ parent_has (Same n) trace p q e h ∙ sym (is_some-map _ (chain n trace q))
      ] refl
      ∙ ap is_some (sym (chain_step n trace p))

  each_from_all : (P : Placed → Type 0) → ((p : Placed) → P p) → (xs : List Placed) → AllByRecursion P xs
  each_from_all P h [] = tt
  each_from_all P h (x ∷ xs) = (h x, each_from_all P h xs)

  abbrev tally : (Placed → Bool) → List Placed → ℕ
  tally f [] = 0
  tally f (x ∷ xs) = cond (f x) 1 0 + tally f xs

  tally_le : (f : Placed → Bool) (xs : List Placed) → tally f xs ≤ length xs
  tally_le f [] = omega arith
  tally_le f (x ∷ xs) = let h = tally_le f xs in elim (f x) as (λ b. cond b 1 0 + tally f xs ≤ suc (length xs)) [ true ↦ omega arith | false ↦ omega arith ]

  tally_all : (f : Placed → Bool) (xs : List Placed) → length xs ≤ tally f xs → AllByRecursion (λ x. f x ≡ true) xs
  tally_all f [] h = tt
  tally_all f (x ∷ xs) h =
      let few = tally_le f xs in
      elim (f x) as (λ b. suc (length xs) ≤ cond b 1 0 + tally f xs → (b ≡ true) × AllByRecursion (λ x. f x ≡ true) xs) [
        | true ↦ λ h. (refl, tally_all f xs (omega arith))
        | false ↦ λ h. absurd (omega arith)
      ] h

  -- if the first of two tests implies the second, either they agree on the list or the second passes more items
  agree_or_more : (f g : Placed → Bool) → ((x : Placed) → f x ≡ true → g x ≡ true) → (xs : List Placed) → (tally f xs ≤ tally g xs)
      × (AllByRecursion (λ x. g x ≡ f x) xs ⊎ (tally f xs < tally g xs))
  agree_or_more f g up [] = (omega arith, inl tt)
  agree_or_more f g up (x ∷ xs) = go (agree_or_more f g up xs)
    where
      go : (tally f xs ≤ tally g xs) × (AllByRecursion (λ x. g x ≡ f x) xs ⊎ (tally f xs < tally g xs)) → (tally f (x ∷ xs) ≤ tally g (x ∷ xs))
          × (AllByRecursion (λ x. g x ≡ f x) (x ∷ xs) ⊎ (tally f (x ∷ xs) < tally g (x ∷ xs)))
      go h =
          elim (f x) as (λ a. (a ≡ true → g x ≡ true) → (cond a 1 0 + tally f xs ≤ tally g (x ∷ xs))
          × (((g x ≡ a) × AllByRecursion (λ x. g x ≡ f x) xs) ⊎ (cond a 1 0 + tally f xs < tally g (x ∷ xs)))) [
            | true ↦ λ up. elim (g x) as (λ b. (b ≡ true) → (1 + tally f xs ≤ cond b 1 0 + tally g xs)
                × (((b ≡ true) × AllByRecursion (λ x. g x ≡ f x) xs) ⊎ (1 + tally f xs < cond b 1 0 + tally g xs))) [
                  | true ↦ λ _. let le = h.0 in (omega arith, ⊎_elim (λ e. inl (refl, e)) (λ lt. inr (omega arith)) h.1)
                  | false ↦ λ e. absurd (false≢true e)
                ] (up refl)
            | false ↦ λ _. elim (g x) as (λ b. (0 + tally f xs ≤ cond b 1 0 + tally g xs)
                × (((b ≡ false) × AllByRecursion (λ x. g x ≡ f x) xs) ⊎ (0 + tally f xs < cond b 1 0 + tally g xs))) [
                  | true ↦ let le = h.0 in (omega arith, inr (omega arith))
                  | false ↦ let le = h.0 in (omega arith, ⊎_elim (λ e. inl (refl, e)) (λ lt. inr (omega arith)) h.1)
                ]
          ] (up x)

  rising : (n : ℕ) (p : Placed) → ended n p ≡ true → ended (suc n) p ≡ true
  rising n p e = ap is_some (settled n p e) ∙ e

  -- after n steps nothing changes any more, or n chains have ended
  by_then : (n : ℕ) → AllByRecursion (Same n) trace ⊎ (n ≤ tally (ended n) trace)
  by_then zero = inr (omega arith)
  by_then (suc n) = ⊎_elim
      (λ h. inl (each_from_all (Same (suc n)) (still n h) trace))
      (λ many. ⊎_elim (λ h. inl (each_from_all (Same (suc n)) (still n h) trace))
      (λ more. inr (omega arith)) (agree_or_more (ended n) (ended (suc n)) (rising n) trace).1)
      (by_then n)

  each_map : (P Q : Placed → Type 0) → ((p : Placed) → P p → Q p) → (xs : List Placed) → AllByRecursion P xs → AllByRecursion Q xs
  each_map P Q f [] h = tt
  each_map P Q f (x ∷ xs) h = (f x h.0, each_map P Q f xs h.1)

  enough : AllByRecursion (Same (length trace)) trace
  enough =
      ⊎_elim (λ h. h) (λ many. each_map (λ x. ended (length trace) x ≡ true) (Same (length trace))
      (λ p e. rising (length trace) p e ∙ sym e) trace (tally_all (ended (length trace)) trace many)) (by_then (length trace))

  same_chain : (n : ℕ) (p : Placed) → Same n p → chain (suc n) trace p ≡ chain n trace p
  same_chain n p same = elim (chain n trace p) as (λ o. chain n trace p ≡ o → chain (suc n) trace p ≡ o) [
    | None ↦ λ e. none_is (chain (suc n) trace p) (same ∙ ap is_some e)
    | Some c ↦ λ e. settled n p (ap is_some e) ∙ e
  ] refl

  -- a span of the trace is below its parent's chain
  pub chains : AllByRecursion (λ p. chain (length trace) trace p ≡ chain_through p (λ q. chain (length trace) trace q) (parent_in trace p)) trace
  chains = each_map (Same (length trace)) _ (λ p same. sym (same_chain (length trace) p same) ∙ chain_step (length trace) trace p) trace enough

-- ---- the clock of a span, by that of its parent
-- a chain is never empty
abbrev NotNil : Option (List Placed) → Type 0
NotNil None = Unit {0}
NotNil (Some []) = ⊥
NotNil (Some (x ∷ xs)) = Unit {0}

push_not_nil : (o : Option (List Placed)) (p : Placed) → NotNil (option_map (λ above. above ++ p ∷ []) o)
push_not_nil None p = tt
push_not_nil (Some []) p = tt
push_not_nil (Some (x ∷ xs)) p = tt

through_not_nil : (p : Placed) (up : Placed → Option (List Placed)) (o : Option Placed) → NotNil (chain_through p up o)
through_not_nil p up None = tt
through_not_nil p up (Some q) = push_not_nil (up q) p

not_nil : (n : ℕ) (trace : List Placed) (p : Placed) → NotNil (chain n trace p)
not_nil zero trace p = subst NotNil (sym (chain_none trace p)) tt
not_nil (suc n) trace p = subst NotNil (sym (chain_step n trace p)) (through_not_nil p (λ q. chain n trace q) (parent_in trace p))

clock_push : (max_skew : ℕ) (o : Option (List Placed)) (p : Placed) → NotNil o
    → option_and_then (clock_along max_skew) (option_map (λ above. above ++ p ∷ []) o) ≡ option_map
    (λ c. clock_below max_skew c p) (option_and_then (clock_along max_skew) o)
clock_push max_skew None p h = refl
clock_push max_skew (Some []) p h = absurd h
clock_push max_skew (Some (x ∷ xs)) p h = ap (λ c. Some c) (fold_push (clock_below max_skew) (clock_at max_skew (host_of x) (pos 0) x.span) xs p)

clock_through : (max_skew n : ℕ) (trace : List Placed) (p : Placed) (o : Option Placed)
    → option_and_then (clock_along max_skew) (chain_through p (λ q. chain n trace q) o) ≡ clock_by max_skew (clock_within max_skew n trace) p o
clock_through max_skew n trace p None = refl
clock_through max_skew n trace p (Some q) = clock_push max_skew (chain n trace q) p (not_nil n trace q)

-- a clock by the parent's, one step nearer to the root
pub within_step : (max_skew n : ℕ) (trace : List Placed) (p : Placed)
    → clock_within max_skew (suc n) trace p ≡ clock_by max_skew (clock_within max_skew n trace) p (parent_in trace p)
within_step max_skew n trace p = ap (option_and_then (clock_along max_skew)) (chain_step n trace p) ∙ clock_through max_skew n trace p (parent_in trace p)

pub within_none : (max_skew : ℕ) (trace : List Placed) (p : Placed) → clock_within max_skew 0 trace p ≡ None
within_none max_skew trace p = ap (option_and_then (clock_along max_skew)) (chain_none trace p)

-- each span of the trace has the clock that its parent's clock implies
pub clocks : (max_skew : ℕ) (trace : List Placed)
    → AllByRecursion (λ p. clock_of max_skew trace p ≡ clock_by max_skew (clock_of max_skew trace) p (parent_in trace p)) trace
clocks max_skew trace =
    each_map trace _ _ (λ p e. ap (option_and_then (clock_along max_skew)) e ∙ clock_through max_skew (length trace) trace p (parent_in trace p)) trace
    (chains trace)
