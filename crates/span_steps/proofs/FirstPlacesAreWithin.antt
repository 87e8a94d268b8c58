-- A first place is within the list.
use Rattle.std.proofs.Common.{◌≡◌, ℕ, ◌<◌, Bool, true, false, List, length, refl, arith}
use Rattle.std.specs.Prelude.{Some, None, IfSome, nat_lt, cond}
use Rattle.std.specs.List.{position, position_or_len}
use Rattle.std.proofs.lemmas.Bool.Decides.{nat_tests}

below : (a b : ℕ) → nat_lt a b ≡ true → a < b
below a b e = grind (arith, nat_tests)

pub place_within : {X : Type 0} (p : X → Bool) (xs : List X) → IfSome (position p xs) (λ i. i < length xs)
place_within {X} p xs =
    let n = position_or_len p xs in
    elim (nat_lt n (length xs)) as (λ t. nat_lt n (length xs) ≡ t → IfSome (cond t (Some n) None) (λ i. i < length xs)) [
      | true ↦ λ e. below n (length xs) e
      | false ↦ λ e. tt
    ] refl
