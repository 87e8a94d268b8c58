-- A key that joins an ordered list, of which only the first n are kept.
use Rattle.std.proofs.Common.{◌≡◌, ℕ, zero, suc, ◌+◌, ◌<◌, ◌≤◌, true, false, List, [], ◌∷◌, ◌++◌, length, take, refl, sym, ap, ◌∙◌, arith}
use Rattle.std.specs.List.{AllByRecursion}
use Rattle.std.specs.declared.cmp.Ordering.{Ordering}
use Rattle.std.specs.declared.cmp.Ordering.TheVariants.{Less, Equal, Greater}
use Rattle.std.specs.Ordering.{match_ordering, is_lt, ordering_reverse}
use Rattle.std.specs.BTreeSet.{insert_key}
use Rattle.std.specs.Cmp.{IsTotalOrder}
use Rattle.std.proofs.Math.Seq.{take-nil}
use Rattle.std.proofs.lemmas.Bool.{false≢true}
use Rattle.std.proofs.lemmas.List.{take_all}

take_front : {K : Type 0} (n : ℕ) (xs : List K) → take n (take n xs) ≡ take n xs
take_front zero xs = refl
take_front (suc n) [] = refl
take_front (suc n) (x ∷ xs) = ap (λ l. x ∷ l) (take_front n xs)

take_fewer : {K : Type 0} (n : ℕ) (xs : List K) → take n (take (suc n) xs) ≡ take n xs
take_fewer zero xs = refl
take_fewer (suc n) [] = refl
take_fewer (suc n) (x ∷ xs) = ap (λ l. x ∷ l) (take_fewer n xs)

module _ {K : Type 0} (cmp : K → K → Ordering) where
  -- it joins the first n alone as it joins all
  pub take_insert : (n : ℕ) (xs : List K) (k : K) → take n (insert_key cmp (take n xs) k) ≡ take n (insert_key cmp xs k)
  take_insert zero xs k = refl
  take_insert (suc n) [] k = refl
  take_insert (suc n) (x ∷ xs) k =
      elim (cmp k x) as (λ r. take (suc n) (match_ordering r (k ∷ x ∷ take n xs) (x ∷ take n xs) (x ∷ insert_key cmp (take n xs) k))
      ≡ take (suc n) (match_ordering r (k ∷ x ∷ xs) (x ∷ xs) (x ∷ insert_key cmp xs k))) [
        | Less ↦ ap (λ l. k ∷ l) (take_fewer n (x ∷ xs))
        | Equal ↦ ap (λ l. x ∷ l) (take_front n xs)
        | Greater ↦ ap (λ l. x ∷ l) (take_insert n xs k)
      ]

module _ {K : Type 0} {cmp : K → K → Ordering} (o : IsTotalOrder cmp) where
  -- x is not above w, and k is not below it
  not_below : (w x k : K) → is_lt (cmp w x) ≡ false → is_lt (cmp k w) ≡ false → is_lt (cmp k x) ≡ false
  not_below w x k a b = elim (cmp k x) as (λ r. cmp k x ≡ r → is_lt r ≡ false) [
    | Less ↦ λ l. absurd (false≢true (sym b ∙ ap is_lt (below l)))
    | Equal ↦ λ e. refl
    | Greater ↦ λ g. refl
  ] refl
    where
      below : cmp k x ≡ Less → cmp k w ≡ Less
      below l = elim (cmp w x) as (λ r. cmp w x ≡ r → is_lt r ≡ false → cmp k w ≡ Less) [
        | Less ↦ λ e f. absurd (false≢true (sym f))
        | Equal ↦ λ e f. o.antisymm k w ∙ ap ordering_reverse (o.congr w x k e ∙ o.antisymm x k ∙ ap ordering_reverse l)
        | Greater ↦ λ e f. o.trans k x w l (o.antisymm x w ∙ ap ordering_reverse e)
      ] refl a

  -- it joins no n keys of which the last is not above it
  pub none_joins : (n : ℕ) (xs : List K) (w k : K) → length xs ≡ n → AllByRecursion (λ x. is_lt (cmp w x) ≡ false) xs → is_lt (cmp k w) ≡ false
      → take n (insert_key cmp xs k) ≡ xs
  none_joins zero [] w k long last after = refl
  none_joins zero (x ∷ xs) w k long last after = absurd (omega (arith, long))
  none_joins (suc n) [] w k long last after = absurd (omega (arith, long))
  none_joins (suc n) (x ∷ xs) w k long last after = elim (cmp k x) as (λ r. cmp k x ≡ r
      → take (suc n) (match_ordering r (k ∷ x ∷ xs) (x ∷ xs) (x ∷ insert_key cmp xs k)) ≡ x ∷ xs) [
        | Less ↦ λ l. absurd (false≢true (sym (not_below w x k last.0 after) ∙ ap is_lt l))
        | Equal ↦ λ e. take_all (suc n) (x ∷ xs) (omega (arith, long))
        | Greater ↦ λ g. ap (λ l. x ∷ l) (none_joins n xs w k (omega (arith, long)) last.1 after)
      ] refl
