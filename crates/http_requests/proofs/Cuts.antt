-- Where a list is cut.
use Rattle.std.proofs.Common.{◌≡◌, ℕ, ◌+◌, ◌-◌, ◌<◌, ◌≤◌, ◌==◌, ◌||◌, Bool, true, false, List, [], ◌∷◌, length, get_or, take, drop, nat_lt, Some, None}
use Rattle.std.proofs.Common.{unwrap_or, if◌then◌else◌, refl, sym, ap, arith, rules}
use Rattle.std.proofs.lemmas.Bool.Decides.{nat_tests}
use Rattle.std.proofs.lemmas.List.Sums.{position_or_len_is, fails_before_first}
use Rattle.std.proofs.lemmas.List.Splits.{slice_split_none, slice_split_first}
use Rattle.std.proofs.lemmas.Grind.{common_steps}
use Rattle.std.proofs.lemmas.Option.{none-some}
use Rattle.std.proofs.lemmas.List.{take_all, length-drop}
use Rattle.std.specs.List.{position_or_len, slice_split}
use Rattle.std.proofs.Math.Bool.{or-false}
use Rattle.httparse.specs.Grammar.{trim_ows}
use Rattle.jaeger_model.specs.Texts.{split_once}
use Rattle.http_requests.specs.Fields.{has_token, same_name}

pub cut_none : (c : ℕ) (xs : List ℕ) → ((k : ℕ) → k < length xs → (get_or xs k 0 == c) ≡ false) → split_once c xs ≡ None
cut_none c xs none =
    let at : position_or_len (λ b. b == c) xs ≡ length xs = position_or_len_is (λ b. b == c) xs (length xs) 0 (omega arith) none (λ l. absurd (omega arith)) in
    let not_less : nat_lt (position_or_len (λ b. b == c) xs) (length xs) ≡ false = rw at (search (rules, nat_tests)) in
    rw not_less refl

pub cut_some : (c place : ℕ) (xs : List ℕ) → place < length xs → ((k : ℕ) → k < place → (get_or xs k 0 == c) ≡ false) → (get_or xs place 0 == c) ≡ true
    → Some (take place xs, take (length xs - (place + 1)) (drop (place + 1) xs)) ≡ split_once c xs
cut_some c place xs inside before here =
    let at : position_or_len (λ b. b == c) xs ≡ place = position_or_len_is (λ b. b == c) xs place 0 (omega arith) before (λ l. here) in
    let less : nat_lt (position_or_len (λ b. b == c) xs) (length xs) ≡ true = rw at (search (rules, nat_tests)) in
    let all : take (length xs - (place + 1)) (drop (place + 1) xs) ≡ drop (place + 1) xs = take_all _ _ (omega (arith, length-drop (place + 1) xs)) in
    rw (less, at, all) refl

none_only : {A : Type 0} (b : Bool) (x : A) → (if b then Some x else None) ≡ None → b ≡ false
none_only true x e = absurd (none-some x (sym e))
none_only false x e = refl

-- a list that isn't cut is one part
pub one_part : (c : ℕ) (xs : List ℕ) → split_once c xs ≡ None → slice_split (λ b. b == c) xs ≡ xs ∷ []
one_part c xs none =
    let off : nat_lt (position_or_len (λ b. b == c) xs) (length xs) ≡ false = none_only _ _ none in
    let far : length xs ≤ position_or_len (λ b. b == c) xs = search (rules, nat_tests) in
    slice_split_none (λ b. b == c) xs (λ k e m. let f = fails_before_first (λ b. b == c) xs k e (grind (arith, common_steps)) in grind (arith, common_steps))

-- a list without a comma has the token where it is the token
pub last_item : (token list : List ℕ) → split_once 44 list ≡ None → has_token token list ≡ same_name (trim_ows list) token
last_item token list none = rw (one_part 44 list none) (or-false (same_name (trim_ows list) token))

some_only : {A : Type 0} (b : Bool) (x y : A) → (if b then Some x else None) ≡ Some y → (b ≡ true) × (x ≡ y)
some_only true x y e = (refl, ap (λ o. unwrap_or o x) e)
some_only false x y e = absurd (none-some y e)

-- a list that is cut has the token where the first item is the token, or the rest has it
pub more_items : (token list item more : List ℕ) → split_once 44 list ≡ Some (item, more)
    → has_token token list ≡ (same_name (trim_ows item) token || has_token token more)
more_items token list item more is =
    let p = some_only _ _ _ is in
    let inside : position_or_len (λ b. b == 44) list < length list = let t = p.0 in search (rules, nat_tests) in
    rw (slice_split_first (λ b. b == 44) list 0 inside, ap (λ (q : List ℕ × List ℕ). q.0) p.1, ap (λ (q : List ℕ × List ℕ). q.1) p.1) refl
