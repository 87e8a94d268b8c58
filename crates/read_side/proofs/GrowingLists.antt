-- Prefixes of one list, and of a list that grows.
use Rattle.std.proofs.Common.{◌≡◌, ℕ, ◌+◌, ◌<◌, ◌≤◌, true, false, List, length, take, get_or, refl, sym, subst, arith}
use Rattle.std.specs.Prelude.{nat_le, MatchBool}
use Rattle.std.specs.List.{All}
use Rattle.std.proofs.lemmas.Bool.{leb-true, leb-false}
use Rattle.std.proofs.lemmas.List.{length-take-le, take_more}
use Rattle.std.proofs.lemmas.List.Elements.{All-weaker, All-push}
use mathlib.Core.List.{IsPrefix}
use Rattle.trace_model.proofs.Prefixes.{prefix_trans, take_prefix, prefix_take}

-- a prefix of a list is a prefix of its continuations
all_begin_on : {A : Type 0} (xs ys : List A) (ps : List (List A)) → IsPrefix xs ys → All (λ p. IsPrefix p xs) ps → All (λ p. IsPrefix p ys) ps
all_begin_on xs ys ps more a = All-weaker (λ p. IsPrefix p xs) (λ p. IsPrefix p ys) (λ p b. prefix_trans p xs ys b more) ps a

begins : {A : Type 0} (n m : ℕ) (xs ys zs : List A) → IsPrefix xs zs → IsPrefix ys zs → n ≤ length xs → m ≤ length ys → n ≤ m → IsPrefix (take n xs) (take m ys)
begins {A} n m xs ys zs p q a b le =
    let P : List A → Type 0 = λ z. IsPrefix z (take m ys) in
    let Q : List A → Type 0 = λ z. IsPrefix (take n zs) z in
    subst P (take_prefix n xs zs p a) (subst Q (take_prefix m ys zs q b) (prefix_take n m zs le))

-- of the first items of two prefixes of one list, the fewer are a prefix of the more
pub one_begins : {A : Type 0} (n m : ℕ) (xs ys zs : List A) → IsPrefix xs zs → IsPrefix ys zs → n ≤ length xs → m ≤ length ys
    → MatchBool (nat_le n m) (IsPrefix (take n xs) (take m ys)) (IsPrefix (take m ys) (take n xs) × (length (take m ys) < length (take n xs)))
one_begins {A} n m xs ys zs p q a b =
    elim (nat_le n m) as (λ r. nat_le n m ≡ r
    → MatchBool r (IsPrefix (take n xs) (take m ys)) (IsPrefix (take m ys) (take n xs) × (length (take m ys) < length (take n xs)))) [
      | true ↦ λ t. begins n m xs ys zs p q a b (leb-true n m t)
      | false ↦ λ f. (let less : m < n = leb-false n m f in
          (begins m n ys xs zs q p b a (omega (arith, less)), omega (arith, less, length-take-le m ys b, length-take-le n xs a)))
    ] refl

-- one more list that is a prefix of what the others are prefixes of
pub all_begin_more : {A : Type 0} (old new : List A) (ps : List (List A)) (i : ℕ) (p : List A) → i < length ps → p ≡ get_or ps i p
    → All (λ q. IsPrefix q old) (take i ps) → IsPrefix old new → IsPrefix p new
    → All (λ q. IsPrefix q new) (take (i + 1) ps)
all_begin_more {A} old new ps i p within is all own other =
    let P : List A → Type 0 = λ q. IsPrefix q new in
    subst (All P) (sym (take_more ps i p within)) (All-push P (take i ps) (get_or ps i p) (all_begin_on old new (take i ps) own all) (subst P is other))
