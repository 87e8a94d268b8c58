-- Keys that are counted: if as many different ones were found as there are, each of them was found.
use Rattle.std.proofs.Common.{◌≡◌, ℕ, ◌+◌, ◌≤◌, Bool, true, false, true≢false, ◌||◌, ◌&&◌, cond, List, [], ◌∷◌, ◌++◌, length, refl, sym, ap, ◌∙◌, arith}
use Rattle.std.proofs.Common.{length-append, eqb-true, eq-eqb}
use Rattle.std.specs.Prelude.{not, ◌==◌}
use Rattle.std.specs.Cmp.{IsEquivalence}
use Rattle.std.specs.List.{AllByRecursion, IsDistinct, list_all}
use Rattle.std.specs.Set.{is_member, distinct_count, unique_keys}
use Rattle.std.proofs.lemmas.List.Folds.{list_any-append}
use Rattle.std.proofs.lemmas.Map.Keys.{IsDistinct-push}
use Rattle.std.proofs.lemmas.Map.Made.{length-le_from_is_member, length-from_keys}
use Rattle.std.proofs.lemmas.Map.Steps.{list_any_congr}
use Rattle.std.proofs.lemmas.Bool.{or_right, and_parts}
use Rattle.std.proofs.Math.Bool.{and-false}
use Rattle.trace_model.proofs.Lists.{each_append}

-- ---- tests
-- one of the own or one of those met before
either_met : (m p s : Bool) → (((m && not (m && p)) && s) || (m && p)) ≡ (m && (s || p))
either_met false p s = refl
either_met true true true = refl
either_met true true false = refl
either_met true false true = refl
either_met true false false = refl

own_is_new : (m t s : Bool) → ((m && not t) && s) ≡ true → t ≡ false
own_is_new m false s h = refl
own_is_new true true s h = absurd (true≢false (sym h))
own_is_new false true s h = absurd (true≢false (sym h))

module _ {K : Type 0} {eq : K → K → Bool} (laws : IsEquivalence eq) where
  -- ---- lists of different keys
  apart : (x : K) (ys : List K) → is_member eq ys x ≡ false → AllByRecursion (λ y. eq x y ≡ false) ys
  apart x [] h = tt
  apart x (y ∷ ys) h = by (eq x y) refl h (apart x ys)
    where
      by : (b : Bool) → eq x y ≡ b → (b || is_member eq ys x) ≡ false → (is_member eq ys x ≡ false → AllByRecursion (λ y. eq x y ≡ false) ys) → (eq x y ≡ false)
          × AllByRecursion (λ y. eq x y ≡ false) ys
      by true t g more = absurd (true≢false g)
      by false t g more = (t, more g)

  distinct_both : (xs ys : List K) → IsDistinct eq xs → IsDistinct eq ys → ((q : K) → is_member eq xs q ≡ true → is_member eq ys q ≡ false)
      → IsDistinct eq (xs ++ ys)
  unfolding IsDistinct
  distinct_both [] ys d e h = e
  distinct_both (x ∷ xs) ys d e h = (
    each_append (λ y. eq x y ≡ false) xs ys d.0 (apart x ys (h x (ap (λ b. b || is_member eq xs x) (laws.refl x)))),
    distinct_both xs ys d.1 e (λ q m. h q (or_right (eq q x) (is_member eq xs q) m)),
  )

  -- ---- the different ones of a list
  kept_by : (b e m u : Bool) → (e ≡ true → m ≡ b) → u ≡ m → cond b u (e || u) ≡ (e || m)
  kept_by true true m u h k = k ∙ h refl
  kept_by true false m u h k = k
  kept_by false e m u h k = ap (λ x. e || x) k

  member_cond : (b : Bool) (q x : K) (us : List K) → is_member eq (cond b us (x ∷ us)) q ≡ cond b (is_member eq us q) (eq q x || is_member eq us q)
  member_cond true q x us = refl
  member_cond false q x us = refl

  member_unique : (xs : List K) (q : K) → is_member eq (unique_keys eq xs) q ≡ is_member eq xs q
  member_unique [] q = refl
  member_unique (x ∷ xs) q =
      member_cond (is_member eq xs x) q x (unique_keys eq xs)
      ∙ kept_by (is_member eq xs x) (eq q x) (is_member eq xs q) (is_member eq (unique_keys eq xs) q) (λ e. list_any_congr laws q x xs e) (member_unique xs q)

  -- keys of a list are no more than it has
  pub few : (xs ns : List K) → IsDistinct eq ns → ((q : K) → is_member eq ns q ≡ true → is_member eq xs q ≡ true) → length ns ≤ distinct_count eq xs
  few xs ns d within = length-le_from_is_member laws ns (unique_keys eq xs) d (λ q m. member_unique xs q ∙ within q m)

  either : (xs ns : List K) (a q : K) → ((q : K) → is_member eq ns q ≡ true → is_member eq xs q ≡ true) → is_member eq xs a ≡ true → (m e : Bool)
      → is_member eq ns q ≡ m → eq q a ≡ e → (m || (e || false)) ≡ true → is_member eq xs q ≡ true
  either xs ns a q within there true e p s h = within q p
  either xs ns a q within there false true p s h = list_any_congr laws q a xs s ∙ there
  either xs ns a q within there false false p s h = absurd (true≢false (sym h))

  -- without one item of the list they are fewer
  pub fewer : (xs ns : List K) (a : K) → IsDistinct eq ns → ((q : K) → is_member eq ns q ≡ true → is_member eq xs q ≡ true) → is_member eq ns a ≡ false
      → is_member eq xs a ≡ true → length ns + 1 ≤ distinct_count eq xs
  fewer xs ns a d within absent there =
      let long = few xs (ns ++ a ∷ []) (IsDistinct-push laws ns a d absent)
      (λ q m. either xs ns a q within there (is_member eq ns q) (eq q a) refl refl (sym (list_any-append (eq q) ns (a ∷ [])) ∙ m)) in
      let count = length-append ns (a ∷ []) in
      omega arith

  -- ---- each key of the list passes
  lacking : (f : K → Bool) (xs : List K) → list_all f xs ≡ false → (x : K) × (is_member eq xs x ≡ true) × (f x ≡ false)
  lacking f [] h = absurd (true≢false h)
  lacking f (x ∷ xs) h = by (f x) refl h (lacking f xs)
    where
      by : (b : Bool) → f x ≡ b → (b && list_all f xs) ≡ false → (list_all f xs ≡ false → (y : K) × (is_member eq xs y ≡ true) × (f y ≡ false)) → (y : K)
          × (is_member eq (x ∷ xs) y ≡ true) × (f y ≡ false)
      by false e g more = (x, ap (λ b. b || is_member eq xs x) (laws.refl x), e)
      by true e g more = let rest = more g in (rest.0, or_right (eq rest.0 x) (is_member eq xs rest.0) rest.1, rest.2)

  passes : (f : K → Bool) → ((q x : K) → eq q x ≡ true → f q ≡ f x) → (xs : List K) → list_all f xs ≡ true → (q : K) → is_member eq xs q ≡ true → f q ≡ true
  passes f alike [] h q m = absurd (true≢false (sym m))
  passes f alike (x ∷ xs) h q m = by (eq q x) refl m (passes f alike xs (and_parts (f x) (list_all f xs) h).1 q)
    where
      by : (b : Bool) → eq q x ≡ b → (b || is_member eq xs q) ≡ true → (is_member eq xs q ≡ true → f q ≡ true) → f q ≡ true
      by true e g more = alike q x e ∙ (and_parts (f x) (list_all f xs) h).0
      by false e g more = more g

  -- if none is missing, each of the list passes
  pub none_left : (f s p : K → Bool) → ((q : K) → f q ≡ (s q || p q)) → (xs met : List K) → IsDistinct eq met
      → ((q : K) → is_member eq met q ≡ (is_member eq xs q && p q))
      → length met ≡ distinct_count eq xs → true ≡ list_all f xs
  none_left f s p either_is xs met d met_is count = by (list_all f xs) refl
    where
      missed : (x : K) → (b : Bool) → is_member eq met x ≡ b → is_member eq xs x ≡ true → f x ≡ false → true ≡ false
      missed x true t m e = sym (either_is x ∙ ap (λ b. s x || b) (and_parts (is_member eq xs x) (p x) (sym (met_is x) ∙ t)).1 ∙ or_right (s x) true refl) ∙ e
      missed x false t m e = let less = fewer xs met x d (λ q n. (and_parts (is_member eq xs q) (p q) (sym (met_is q) ∙ n)).0) t m in absurd (omega arith)

      by : (b : Bool) → list_all f xs ≡ b → true ≡ b
      by true h = refl
      by false h = let gap = lacking f xs h in missed gap.0 (is_member eq met gap.0) refl gap.1 gap.2

  module _ (f s p : K → Bool) (alike : (q x : K) → eq q x ≡ true → f q ≡ f x) (either_is : (q : K) → f q ≡ (s q || p q)) (xs own met : List K)
      (own_distinct : IsDistinct eq own) (met_distinct : IsDistinct eq met)
      (own_is : (q : K) → is_member eq own q ≡ ((is_member eq xs q && not (is_member eq met q)) && s q))
      (met_is : (q : K) → is_member eq met q ≡ (is_member eq xs q && p q)) where
    all_met : List K
    all_met = own ++ met

    is_met : (q : K) → is_member eq (own ++ met) q ≡ (is_member eq xs q && f q)
    is_met q =
        list_any-append (eq q) own met
        ∙ ap (λ b. b || is_member eq met q) (own_is q)
        ∙ ap (λ t. ((is_member eq xs q && not t) && s q) || t) (met_is q)
        ∙ either_met (is_member eq xs q) (p q) (s q)
        ∙ ap (λ b. is_member eq xs q && b) (sym (either_is q))

    both : IsDistinct eq (own ++ met)
    both = distinct_both own met own_distinct met_distinct (λ q m. own_is_new (is_member eq xs q) (is_member eq met q) (s q) (sym (own_is q) ∙ m))

    within : (q : K) → is_member eq (own ++ met) q ≡ true → is_member eq xs q ≡ true
    within q m = (and_parts (is_member eq xs q) (f q) (sym (is_met q) ∙ m)).0

    and_true : (m b : Bool) → (m ≡ true → b ≡ true) → (m && b) ≡ m
    and_true true b h = h refl
    and_true false b h = refl

    as_many : list_all f xs ≡ true → length own + length met ≡ distinct_count eq xs
    as_many h =
        let count = length-from_keys laws (own ++ met) xs both (λ q. is_met q ∙ and_true (is_member eq xs q) (f q) (passes f alike xs h q)) in
        let sum = length-append own met in
        omega arith

    too_few : list_all f xs ≡ false → length own + length met + 1 ≤ distinct_count eq xs
    too_few h =
        let gap = lacking f xs h in
        let less = fewer xs (own ++ met) gap.0 both within (is_met gap.0 ∙ ap (λ b. is_member eq xs gap.0 && b) gap.2 ∙ and-false (is_member eq xs gap.0))
        gap.1 in
        let sum = length-append own met in
        omega arith

    -- as many of the own as were missing say that each of the list passes
    pub counted : (missing : ℕ) → missing + length met ≡ distinct_count eq xs → (length own == missing) ≡ list_all f xs
    counted missing sum = by (list_all f xs) refl
      where
        by : (b : Bool) → list_all f xs ≡ b → (length own == missing) ≡ b
        by true h = let e = as_many h in eq-eqb (length own) missing (omega arith)
        by false h = let e = too_few h in unequal (length own == missing) refl
          where
            unequal : (b : Bool) → (length own == missing) ≡ b → b ≡ false
            unequal false t = refl
            unequal true t = let same : length own ≡ missing = eqb-true (length own) missing t in let e = too_few h in absurd (omega arith)
