-- First places, as a table of them grows, and what is there.
use Rattle.std.proofs.Common.{◌≡◌, ℕ, suc, ◌+◌, ◌<◌, nat_lt, Bool, true, false, ◌||◌, cond, List, [], ◌∷◌, ◌++◌, map, take, length, get_or, refl, sym, ap}
use Rattle.std.proofs.Common.{◌∙◌, arith, eqb-true, ⊎_elim, subst}
use Rattle.std.proofs.lemmas.Bool.{cases_eq}
use Rattle.std.proofs.lemmas.Bool.Decides.{nat_tests}
use Rattle.std.specs.Prelude.{Option, Some, None, option_map, is_some, find, not, ◌==◌, if◌then◌else◌}
use Rattle.std.specs.Option.{option_or}
use Rattle.std.specs.List.{list_any, position, position_or_len}
use Rattle.std.specs.Ordering.{nat_cmp, is_eq}
use Rattle.std.specs.Cmp.{unsigned_ties}
use Rattle.std.proofs.lemmas.List.{take_more, map_push, length-map, length-take-le, get_or-map, get_or_at, get_or_append_left}
use Rattle.jaeger_model.specs.declared.ids.SpanId.{SpanId}
use Rattle.jaeger_model.specs.declared.placed.Placed.{Placed}
use Rattle.jaeger_model.specs.Parents.{parent}
use Rattle.trace_model.specs.ServiceLinks.{has_id, parent_in, place_of_parent}
use Rattle.trace_model.specs.declared.answer.Shown.{Shown}
use Rattle.trace_model.specs.Adjusting.{spans_of}
use Rattle.trace_model.proofs.Lists.{found_at}
use Rattle.trace_model.proofs.Tables.{entered, kept, entry_map}
use Rattle.trace_adjust.specs.KnownClocks.{first_place, first_at, place_in, parent_at}
use Rattle.trace_model.proofs.ParentChains.{parent_there, parent_within, is_some-map}

-- in a list with one item more
pub place_push : {X : Type 0} (test : X → Bool) (xs : List X) (x : X)
    → first_place test (xs ++ x ∷ []) ≡ option_or (first_place test xs) (cond (test x) (Some (length xs)) None)
place_push test [] x = refl
place_push test (y ∷ xs) x =
    elim (test y) as (λ b. cond b (Some 0) (option_map suc (first_place test (xs ++ x ∷ [])))
    ≡ option_or (cond b (Some 0) (option_map suc (first_place test xs))) (cond (test x) (Some (suc (length xs))) None)) [
      | true ↦ refl
      | false ↦ ap (option_map suc) (place_push test xs x) ∙ entry_map suc (first_place test xs) (test x) (length xs)
    ]

first_more : (id : ℕ) (xs : List Placed) (i : ℕ) (x : Placed) (before : Option ℕ) → i < length xs → x ≡ get_or xs i x → before ≡ first_at id (take i xs)
    → option_or before (cond (x.span.id.0 == id) (Some i) None) ≡ first_at id (take (i + 1) xs)
first_more id xs i x before l e inv =
    (λ k. option_or (inv k) (cond ((e k).span.id.0 == id) (Some (sym (length-take-le i xs (omega arith)) k)) None))
    ∙ sym (ap (first_at id) (take_more xs i x l) ∙ place_push (λ (p : Placed). p.span.id.0 == id) (take i xs) (get_or xs i x))

-- the table with one more span, whose id it did not have
pub place_entered : (q : ℕ) (g : ℕ → Option ℕ) (o : Option ℕ) (xs : List Placed) (i : ℕ) (x : Placed) → i < length xs → x ≡ get_or xs i x
    → ((id : ℕ) → g id ≡ first_at id (take i xs)) → is_some (g x.span.id.0) ≡ false → o ≡ cond (is_eq (nat_cmp x.span.id.0 q)) (Some i) (g q)
    → o ≡ first_at q (take (i + 1) xs)
place_entered q g o xs i x l e inv none put =
    let id = x.span.id.0 in
    put ∙ ap (λ b. cond b (Some i) (g q)) (sym (unsigned_ties id q)) ∙ entered g id q i (id == q) (eqb-true id q) none ∙ first_more q xs i x (g q) l e (inv q)

-- and one whose id it has
pub place_kept : (q : ℕ) (g : ℕ → Option ℕ) (xs : List Placed) (i : ℕ) (x : Placed) → i < length xs → x ≡ get_or xs i x
    → ((id : ℕ) → g id ≡ first_at id (take i xs)) → is_some (g x.span.id.0) ≡ true → g q ≡ first_at q (take (i + 1) xs)
place_kept q g xs i x l e inv some = let id = x.span.id.0 in kept g id q i (id == q) (eqb-true id q) some ∙ first_more q xs i x (g q) l e (inv q)

-- ---- the item at a first place
place_is : {X : Type 0} (test : X → Bool) (xs : List X) → first_place test xs ≡ position test xs
place_is test [] = refl
place_is test (x ∷ xs) =
    elim (test x) as (λ b. cond b (Some 0) (option_map suc (first_place test xs))
    ≡ cond (nat_lt (cond (not b) (1 + position_or_len test xs) 0) (suc (length xs))) (Some (cond (not b) (1 + position_or_len test xs) 0)) None) [
      | true ↦ grind (arith, nat_tests)
      | false ↦ ap (option_map suc) (place_is test xs) ∙ one_later (position_or_len test xs) (length xs)
    ]
  where
    one_later : (n m : ℕ) → option_map suc (cond (nat_lt n m) (Some n) None) ≡ cond (nat_lt (1 + n) (suc m)) (Some (1 + n)) None
    one_later n m = grind (arith, nat_tests)

pub place_found : {X : Type 0} (test : X → Bool) (xs : List X) (d : X) → option_map (λ j. get_or xs j d) (first_place test xs) ≡ find test xs
place_found test xs d = ap (option_map (λ j. get_or xs j d)) (place_is test xs) ∙ found_at test xs d

same_place : (trace : List Placed) (p : Placed) → place_in trace p ≡ place_of_parent trace p
same_place trace p = ap (λ (o : Option ℕ). if (parent p.span).0 == 0 then None else o) (place_is (has_id (parent p.span)) trace)

pub place_there : (trace : List Placed) (p d : Placed) → option_map (λ j. get_or trace j d) (place_in trace p) ≡ parent_in trace p
place_there trace p d = ap (option_map (λ j. get_or trace j d)) (same_place trace p) ∙ parent_there trace p d

pub place_below : (trace : List Placed) (p : Placed) (j : ℕ) → place_in trace p ≡ Some j → j < length trace
place_below trace p j e = parent_within trace p j (sym (same_place trace p) ∙ e)

pub same_parent : (trace : List Placed) (g : ℕ → Option ℕ) → ((id : ℕ) → g id ≡ first_at id trace) → (p : Placed) → parent_at g p ≡ place_in trace p
same_parent trace g h p = ap (λ o. if (parent p.span).0 == 0 then None else o) (h (parent p.span).0)

-- ---- ids that are repeated
any_place : {X : Type 0} (test : X → Bool) (xs : List X) → is_some (first_place test xs) ≡ list_any test xs
any_place test [] = refl
any_place test (x ∷ xs) =
    elim (test x) as (λ b. is_some (cond b (Some 0) (option_map suc (first_place test xs))) ≡ (b || list_any test xs)) [
      | true ↦ refl
      | false ↦ is_some-map suc (first_place test xs) ∙ any_place test xs
    ]

pub has_place : (id : SpanId) (ps : List Placed) → is_some (first_at id.0 ps) ≡ list_any (has_id id) ps
has_place id ps = any_place (has_id id) ps

-- one more element at the end
pub below_push : {X : Type 0} (P : ℕ → X → Type 0) (xs ys : List X) (x e : X) (i : ℕ) → length xs ≡ i → ys ≡ xs ++ x ∷ []
    → ((k : ℕ) → k < i → P k (get_or xs k e)) → P i x → (k : ℕ) → k < i + 1 → P k (get_or ys k e)
below_push P xs ys x e i many put below here k l = ⊎_elim
    (λ (same : k ≡ i). subst (λ j. P j (get_or ys j e)) (sym same) (subst (P i) (sym (ap (λ zs. get_or zs i e) put ∙ get_or_at xs x [] e i many)) here))
    (λ (other : k ≡ i → ⊥).
    let inside : k < length xs = omega (arith, many, l, other) in
    subst (P k) (sym (ap (λ zs. get_or zs k e) put ∙ get_or_append_left xs (x ∷ []) e k inside)) (below k (omega arith)))
    (cases_eq k i)

-- ---- the spans of what is shown
abbrev span_of : Shown → Placed
span_of s = s.placed

pub as_many : (ss : List Shown) → length (spans_of ss) ≡ length ss
as_many ss = length-map ss span_of

pub placed_at : (ss : List Shown) (i : ℕ) (s : Shown) → i < length ss → s ≡ get_or ss i s → s.placed ≡ get_or (spans_of ss) i s.placed
placed_at ss i s l e = ap span_of e ∙ sym (get_or-map span_of ss i s s.placed l)

-- one more place of a parent
pub places_more : (f : Placed → Option ℕ) (ps : List Placed) (i : ℕ) (p : Placed) (had has : List (Option ℕ)) (o : Option ℕ) → i < length ps → p ≡ get_or ps i p
    → had ≡ map f (take i ps) → o ≡ f p → has ≡ had ++ o ∷ [] → has ≡ map f (take (i + 1) ps)
places_more f ps i p had has o l e inv here put =
    put ∙ (λ j. inv j ++ (here ∙ ap f e) j ∷ [])
    ∙ sym (map_push f (take i ps) (get_or ps i p))
    ∙ ap (map f) (sym (take_more ps i p l))
