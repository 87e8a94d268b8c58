-- The counted links are the same in every order of the traces, have each pair once, and none within a service.
use Rattle.std.proofs.Common.{◌≡◌, ℕ, ◌+◌, ℤ, Bool, true, false, ◌||◌, List, [], ◌∷◌, map, refl, sym, ap, ◌∙◌, cond, subst}
use Rattle.std.specs.Prelude.{Option, Some, None, filter_map, flat_map, count_by, sum_by, if◌then◌else◌}
use Rattle.std.specs.List.{list_any, cons_option}
use Rattle.std.specs.List.Sorted.{IsPermutation, IsStrictlySortedBy}
use Rattle.std.specs.Ordering.{eq_by_cmp}
use Rattle.std.proofs.lemmas.List.Concat.{flat_map-cons}
use Rattle.std.proofs.lemmas.List.Folds.{list_any-append}
use Rattle.std.proofs.lemmas.List.Sums.{sum_by-append, sum_by-cons}
use Rattle.std.proofs.lemmas.List.Sorted.{sum_by-IsPermutation, list_any-IsPermutation}
use Rattle.jaeger_model.specs.declared.placed.Placed.{Placed}
use Rattle.jaeger_model.specs.Texts.{same_text, sorted_set}
use Rattle.trace_model.specs.declared.answer.Link.{Link}
use Rattle.trace_model.specs.ServiceLinks.{parent_in, call_from, calls_of, in_window, call_cmp, same_call, calls_within, calls, counted, links}
use Rattle.trace_model.proofs.SortedSets.{has, sorted_set-rises, sorted_set-has, rises_same, any_set}
use Rattle.trace_model.proofs.NameLaws.{any_map, call_total, call_exact}

abbrev Pair : Type 0
Pair = List ℕ × List ℕ

-- ---- a test and a count of what each trace yields
any_flat : {X Y : Type 0} (p : Y → Bool) (f : X → List Y) (xs : List X) → list_any p (flat_map f xs) ≡ list_any (λ x. list_any p (f x)) xs
any_flat p f [] = refl
any_flat p f (x ∷ xs) = ap (list_any p) (flat_map-cons f x xs) ∙ list_any-append p (f x) (flat_map f xs) ∙ ap (λ b. list_any p (f x) || b) (any_flat p f xs)

count_flat : {X Y : Type 0} (p : Y → Bool) (f : X → List Y) (xs : List X) → count_by p (flat_map f xs) ≡ sum_by (λ x. count_by p (f x)) xs
count_flat p f [] = refl
count_flat p f (x ∷ xs) =
    ap (count_by p) (flat_map-cons f x xs) ∙ sum_by-append (λ y. cond (p y) 1 0) (f x) (flat_map f xs)
    ∙ ap (λ n. count_by p (f x) + n) (count_flat p f xs) ∙ sym (sum_by-cons (λ x. count_by p (f x)) x xs)

-- the same calls, each as often, are counted alike
counted_alike : (cs ds : List Pair) → ((q : Pair) → has call_cmp q cs ≡ has call_cmp q ds)
    → ((q : Pair) → count_by (same_call q) cs ≡ count_by (same_call q) ds) → counted cs ≡ counted ds
counted_alike cs ds there often = λ i. map (λ (c : Pair). record { parent = c.0; child = c.1; calls = often c i }) (sets i)
  where
    sets : sorted_set call_cmp cs ≡ sorted_set call_cmp ds
    sets =
        rises_same call_total call_exact (sorted_set call_cmp cs) (sorted_set call_cmp ds) (sorted_set-rises call_total cs) (sorted_set-rises call_total ds)
        (λ q. sorted_set-has call_total q cs ∙ there q ∙ sym (sorted_set-has call_total q ds))

pub links_in_any_order : (end_ms lookback_ms : ℤ) (ts us : List (List Placed)) → IsPermutation ts us → links end_ms lookback_ms ts ≡ links end_ms lookback_ms us
links_in_any_order e l ts us h = counted_alike (calls e l ts) (calls e l us) there often
  where
    there : (q : Pair) → has call_cmp q (calls e l ts) ≡ has call_cmp q (calls e l us)
    there q =
        any_flat (eq_by_cmp call_cmp q) (calls_within e l) ts
        ∙ list_any-IsPermutation (λ t. list_any (eq_by_cmp call_cmp q) (calls_within e l t)) ts us h
        ∙ sym (any_flat (eq_by_cmp call_cmp q) (calls_within e l) us)

    often : (q : Pair) → count_by (same_call q) (calls e l ts) ≡ count_by (same_call q) (calls e l us)
    often q =
        count_flat (same_call q) (calls_within e l) ts
        ∙ sym (sum_by-IsPermutation (λ t. count_by (same_call q) (calls_within e l t)) ts us h)
        ∙ sym (count_flat (same_call q) (calls_within e l) us)

-- ---- each pair once, in order
pairs_counted : (number : Pair → ℕ) (cs : List Pair)
    → map (λ (l : Link). (l.parent, l.child)) (map (λ (c : Pair). record { parent = c.0; child = c.1; calls = number c }) cs) ≡ cs
pairs_counted number [] = refl
pairs_counted number (c ∷ cs) = ap (λ r. c ∷ r) (pairs_counted number cs)

pub links_are_sorted : (end_ms lookback_ms : ℤ) (ts : List (List Placed))
    → IsStrictlySortedBy call_cmp (map (λ (l : Link). (l.parent, l.child)) (links end_ms lookback_ms ts))
links_are_sorted e l ts =
    let cs = calls e l ts in
    subst (IsStrictlySortedBy call_cmp) (sym (pairs_counted (λ c. count_by (same_call c) cs) (sorted_set call_cmp cs))) (sorted_set-rises call_total cs)

-- ---- none within a service
abbrev own : Pair → Bool
own c = same_text c.0 c.1

abbrev is_own : Option Pair → Bool
is_own None = false
is_own (Some c) = own c

not_own : (p : Placed) (o : Option Placed) → is_own (call_from p o) ≡ false
not_own p None = refl
not_own p (Some q) =
    elim (same_text q.process.service p.process.service) as (λ b. same_text q.process.service p.process.service ≡ b
    → is_own (if b then None else Some (q.process.service, p.process.service)) ≡ false) [
      | true ↦ λ e. refl
      | false ↦ λ e. e
    ] refl

one_more : (o : Option Pair) (cs : List Pair) → is_own o ≡ false → list_any own cs ≡ false → list_any own (cons_option o cs) ≡ false
one_more None cs e h = h
one_more (Some c) cs e h = ap (λ b. b || list_any own cs) e ∙ h

none_own : (trace ps : List Placed) → list_any own (filter_map (λ p. call_from p (parent_in trace p)) ps) ≡ false
none_own trace [] = refl
none_own trace (p ∷ ps) =
    one_more (call_from p (parent_in trace p)) (filter_map (λ p. call_from p (parent_in trace p)) ps) (not_own p (parent_in trace p)) (none_own trace ps)

none_own_within : (e l : ℤ) (t : List Placed) → list_any own (calls_within e l t) ≡ false
none_own_within e l t = elim (list_any (in_window e l) t) as (λ b. list_any own (if b then calls_of t else []) ≡ false) [ true ↦ none_own t t | false ↦ refl ]

none_in_any : (e l : ℤ) (ts : List (List Placed)) → list_any (λ t. list_any own (calls_within e l t)) ts ≡ false
none_in_any e l [] = refl
none_in_any e l (t ∷ ts) = ap (λ b. b || list_any (λ t. list_any own (calls_within e l t)) ts) (none_own_within e l t) ∙ none_in_any e l ts

pub none_calls_itself : (end_ms lookback_ms : ℤ) (ts : List (List Placed))
    → list_any (λ (l : Link). same_text l.parent l.child) (links end_ms lookback_ms ts) ≡ false
none_calls_itself e l ts =
    let cs = calls e l ts in
    any_map (λ (l : Link). same_text l.parent l.child)
    (λ (c : Pair). record { parent = c.0; child = c.1; calls = count_by (same_call c) cs }) (sorted_set call_cmp cs)
    ∙ any_set call_exact own cs ∙ any_flat own (calls_within e l) ts ∙ none_in_any e l ts
