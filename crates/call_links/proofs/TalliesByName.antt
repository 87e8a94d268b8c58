-- Tallies in order of the ranks of their services are in order of the names of these.
use Rattle.std.proofs.Common.{◌≡◌, ℕ, zero, suc, ◌+◌, nat_lt, arith, Bool, true, false, ◌&&◌, ◌||◌, cond, List, [], ◌∷◌, ◌++◌, ◌<◌, take, length, get_or, map}
use Rattle.std.proofs.Common.{refl, sym, ap, ◌∙◌, eqb-true, eq-eqb}
use Rattle.std.specs.Prelude.{count_by, fold, flat_map, Option, Some, None, is_some, unwrap_or, option_map, ◌==◌}
use Rattle.std.specs.Option.{option_or}
use Rattle.std.specs.List.{AllByRecursion}
use Rattle.std.specs.BTreeMap.{insert_entry}
use Rattle.std.specs.declared.cmp.Ordering.{Ordering}
use Rattle.std.specs.declared.cmp.Ordering.TheVariants.{Less, Equal, Greater}
use Rattle.std.specs.Ordering.{nat_cmp, is_eq, eq_by_cmp, match_ordering, ordering_then, ordering_reverse}
use Rattle.std.specs.Cmp.{IsTotalOrder, tied_itself, unsigned_ties}
use Rattle.std.specs.FinMap.{IsAntisymmetric}
use Rattle.std.proofs.lemmas.Cmp.{nat_cmp_total}
use Rattle.std.proofs.lemmas.List.Sums.{sum_by-cons}
use Rattle.std.proofs.lemmas.Bool.{false≢true}
use Rattle.std.proofs.lemmas.Bool.Decides.{nat_tests}
use Rattle.std.proofs.lemmas.List.{map-id, take_more, length-take-le}
use Rattle.std.proofs.lemmas.Simd.{map-map}
use Rattle.std.proofs.lemmas.Map.Lookups.{exact_unsigned}
use denote.Ref.{Bor}
use Rattle.jaeger_model.specs.declared.text.Text.{Text}
use Rattle.jaeger_model.specs.Texts.{text_cmp, sorted_set}
use Rattle.trace_model.specs.TakenSpans.{Taken}
use Rattle.trace_model.specs.ServiceLinks.{call_cmp, same_call, counted}
use Rattle.trace_model.proofs.NameLaws.{any_map, call_exact, call_total, text_exact, text_total}
use Rattle.trace_model.proofs.Tables.{entered, kept, entry_map}
use Rattle.trace_model.proofs.SortedSets.{Below, has, sorted_set-rises, sorted_set-has, rises_same, any_set}
use Rattle.std.specs.List.Sorted.{IsStrictlySortedBy}
use Rattle.call_links.specs.NumberedCalls.{NumberedService, NumberedCall, StandsFor, AreCallsNumberedBy, text_in, texts_called, numbers_called}
use Rattle.call_links.specs.LinkTallies.{PairNumbers, PairTexts, LinkTallies, number_cmp, same_numbers, times_called, texts_for, tally_of}
use Rattle.call_links.specs.ServiceRanks.{service_entry, name_entry, with_services, with_name, named, numbers_by_name, rank_of, with_ranks, ranked, link_of}
use Rattle.call_links.proofs.ServiceNumbers.{same_by_number}
use Rattle.call_links.proofs.Pairs.{insert_through, put, with_values, put_all, each_in_set}
use Rattle.call_links.proofs.CountedCalls.{number_exact}

-- ---- what is inserted into the tables
pub service_put : (es : List (ℕ × Taken)) (n : ℕ) (s : Taken)
    → map service_entry (insert_entry nat_cmp es n s) ≡ insert_entry nat_cmp (map service_entry es) n (text_in s.span)
service_put es n s = insert_through nat_cmp (λ n. n) (λ (s : Taken). text_in s.span) es n s

pub name_put : (es : List (Bor Text × ℕ)) (t : Bor Text) (n : ℕ)
    → map name_entry (insert_entry (λ (a b : Bor Text). text_cmp a.now b.now) es t n) ≡ insert_entry text_cmp (map name_entry es) t.now n
name_put es t n = insert_through text_cmp (λ (t : Bor Text). t.now) (λ n. n) es t n

-- ---- a table of ranks with one number more
rank_push : (ks : List ℕ) (k n : ℕ) → rank_of (ks ++ k ∷ []) n ≡ option_or (rank_of ks n) (cond (k == n) (Some (length ks)) None)
rank_push [] k n = refl
rank_push (x ∷ ks) k n =
    elim (x == n) as (λ b. cond b (Some 0) (option_map suc (rank_of (ks ++ k ∷ []) n))
    ≡ option_or (cond b (Some 0) (option_map suc (rank_of ks n))) (cond (k == n) (Some (suc (length ks))) None)) [
      | true ↦ refl
      | false ↦ ap (option_map suc) (rank_push ks k n) ∙ entry_map suc (rank_of ks n) (k == n) (length ks)
    ]

rank_more : (n : ℕ) (ks : List ℕ) (i k : ℕ) (before : Option ℕ) → i < length ks → k ≡ get_or ks i 0 → before ≡ rank_of (take i ks) n
    → option_or before (cond (k == n) (Some i) None) ≡ rank_of (take (i + 1) ks) n
rank_more n ks i k before l e inv =
    (λ j. option_or (inv j) (cond (e j == n) (Some (sym (length-take-le i ks (omega arith)) j)) None))
    ∙ sym (ap (λ xs. rank_of xs n) (take_more ks i 0 l) ∙ rank_push (take i ks) (get_or ks i 0) n)

pub rank_entered : (n : ℕ) (g : ℕ → Option ℕ) (o : Option ℕ) (ks : List ℕ) (i k : ℕ) → i < length ks → k ≡ get_or ks i 0
    → ((m : ℕ) → g m ≡ rank_of (take i ks) m) → is_some (g k) ≡ false
    → o ≡ cond (is_eq (nat_cmp k n)) (Some i) (g n) → o ≡ rank_of (take (i + 1) ks) n
rank_entered n g o ks i k l e inv none put =
    put ∙ ap (λ b. cond b (Some i) (g n)) (sym (unsigned_ties k n)) ∙ entered g k n i (k == n) (eqb-true k n) none ∙ rank_more n ks i k (g n) l e (inv n)

pub rank_kept : (n : ℕ) (g : ℕ → Option ℕ) (ks : List ℕ) (i k : ℕ) → i < length ks → k ≡ get_or ks i 0 → ((m : ℕ) → g m ≡ rank_of (take i ks) m)
    → is_some (g k) ≡ true → g n ≡ rank_of (take (i + 1) ks) n
rank_kept n g ks i k l e inv some = kept g k n i (k == n) (eqb-true k n) some ∙ rank_more n ks i k (g n) l e (inv n)

-- ---- the place of a key in an ascending list
abbrev pub place : {K : Type 0} → (K → K → Ordering) → List K → K → ℕ
place cmp [] q = 0
place cmp (x ∷ xs) q = cond (is_eq (cmp q x)) 0 (suc (place cmp xs q))

less_later : (a b : ℕ) → nat_lt (suc a) (suc b) ≡ nat_lt a b
less_later a b = grind (arith, nat_tests)

same_later : (a b : ℕ) → (suc a == suc b) ≡ (a == b)
same_later a b = grind (arith, nat_tests)

both_later : (a b : ℕ) → nat_cmp (suc a) (suc b) ≡ nat_cmp a b
both_later a b = λ i. cond (less_later a b i) Less (cond (same_later a b i) Equal Greater)

zero_first : (a : ℕ) → nat_lt 0 (suc a) ≡ true
zero_first a = grind (arith, nat_tests)

one_first : (a : ℕ) → nat_cmp 0 (suc a) ≡ Less
one_first a = λ i. cond (zero_first a i) Less (cond (0 == suc a) Equal Greater)

less_than_none : (a : ℕ) → nat_lt (suc a) 0 ≡ false
less_than_none a = grind (arith, nat_tests)

not_none : (a : ℕ) → (suc a == 0) ≡ false
not_none a = grind (arith, nat_tests)

one_later : (a : ℕ) → nat_cmp (suc a) 0 ≡ Greater
one_later a = λ i. cond (less_than_none a i) Less (cond (not_none a i) Equal Greater)

module _ {K : Type 0} {cmp : K → K → Ordering} (o : IsTotalOrder cmp) (exact : IsAntisymmetric cmp) where
  is_above : (x q : K) (xs : List K) → Below cmp x xs → has cmp q xs ≡ true → cmp x q ≡ Less
  is_above x q [] b h = absurd (false≢true h)
  is_above x q (y ∷ xs) b h = elim (cmp q y) as (λ r. cmp q y ≡ r → (is_eq r || has cmp q xs) ≡ true → cmp x q ≡ Less) [
    | Less ↦ λ e g. is_above x q xs b.1 g
    | Equal ↦ λ e g. ap (cmp x) (exact q y e) ∙ b.0
    | Greater ↦ λ e g. is_above x q xs b.1 g
  ] refl h

  tied : (p x : K) → is_eq (cmp p x) ≡ true → p ≡ x
  tied p x e = elim (cmp p x) as (λ r. cmp p x ≡ r → is_eq r ≡ true → p ≡ x) [
    | Less ↦ λ r g. absurd (false≢true g)
    | Equal ↦ λ r g. exact p x r
    | Greater ↦ λ r g. absurd (false≢true g)
  ] refl e

  -- each of two keys is the first of the list, or after it
  two_placed : (x : K) (xs : List K) (p q : K) (a b : Bool) → is_eq (cmp p x) ≡ a → is_eq (cmp q x) ≡ b → Below cmp x xs → (a || has cmp p xs) ≡ true
      → (b || has cmp q xs) ≡ true
      → (has cmp p xs ≡ true → has cmp q xs ≡ true → nat_cmp (place cmp xs p) (place cmp xs q) ≡ cmp p q)
      → nat_cmp (cond a 0 (suc (place cmp xs p))) (cond b 0 (suc (place cmp xs q))) ≡ cmp p q
  two_placed x xs p q true true e f l g h rest = sym (tied_itself o x) ∙ (λ i. cmp (sym (tied p x e) i) (sym (tied q x f) i))
  two_placed x xs p q true false e f l g h rest = one_first (place cmp xs q) ∙ sym (ap (λ z. cmp z q) (tied p x e) ∙ is_above x q xs l h)
  two_placed x xs p q false true e f l g h rest =
      one_later (place cmp xs p) ∙ sym (ap (cmp p) (tied q x f) ∙ o.antisymm p x ∙ ap ordering_reverse (is_above x p xs l g))
  two_placed x xs p q false false e f l g h rest = both_later (place cmp xs p) (place cmp xs q) ∙ rest g h

  -- places are in the order of their keys
  pub places_agree : (xs : List K) (p q : K) → IsStrictlySortedBy cmp xs → has cmp p xs ≡ true → has cmp q xs ≡ true
      → nat_cmp (place cmp xs p) (place cmp xs q) ≡ cmp p q
  unfolding IsStrictlySortedBy
  places_agree [] p q r g h = absurd (false≢true g)
  places_agree (x ∷ xs) p q r g h = two_placed x xs p q (is_eq (cmp p x)) (is_eq (cmp q x)) refl refl r.0 g h (places_agree xs p q r.1)

-- ---- tallies by the places of their texts
module _ (names : List (List ℕ)) (rises : IsStrictlySortedBy text_cmp names) where
  abbrev Within : PairTexts → Type 0
  Within t = (has text_cmp t.0 names ≡ true) × (has text_cmp t.1 names ≡ true)

  abbrev places : PairTexts → PairNumbers
  places t = (place text_cmp names t.0, place text_cmp names t.1)

  abbrev at_places : PairTexts × ℕ → PairNumbers × (PairTexts × ℕ)
  at_places x = (places x.0, x)

  abbrev AllWithin : List (PairTexts × ℕ) → Type 0
  AllWithin xs = AllByRecursion (λ (x : PairTexts × ℕ). Within x.0) xs

  agree : (a b : PairTexts) → Within a → Within b → number_cmp (places a) (places b) ≡ call_cmp a b
  agree a b p q =
      λ i. ordering_then (places_agree text_total text_exact names a.0 b.0 rises p.0 q.0 i) (places_agree text_total text_exact names a.1 b.1 rises p.1 q.1 i)

  insert_placed : (xs : List (PairTexts × ℕ)) (t : PairTexts) (n : ℕ) → AllWithin xs → Within t
      → insert_entry number_cmp (map at_places xs) (places t) (t, n) ≡ map at_places (insert_entry call_cmp xs t n)
  insert_placed [] t n a p = refl
  insert_placed (x ∷ xs) t n a p =
      ap (λ r. match_ordering r ((places t, (t, n)) ∷ at_places x ∷ map at_places xs) ((places x.0, (t, n)) ∷ map at_places xs)
      (at_places x ∷ insert_entry number_cmp (map at_places xs) (places t) (t, n))) (agree t x.0 p a.0)
      ∙ elim (call_cmp t x.0) as (λ r. call_cmp t x.0 ≡ r
      → match_ordering r ((places t, (t, n)) ∷ at_places x ∷ map at_places xs) ((places x.0, (t, n)) ∷ map at_places xs)
      (at_places x ∷ insert_entry number_cmp (map at_places xs) (places t) (t, n))
      ≡ map at_places (match_ordering r ((t, n) ∷ x ∷ xs) ((x.0, n) ∷ xs) (x ∷ insert_entry call_cmp xs t n))) [
        | Less ↦ λ e. refl
        | Equal ↦ λ e. ap (λ (u : PairTexts). (places x.0, (u, n)) ∷ map at_places xs) (call_exact t x.0 e)
        | Greater ↦ λ e. ap (λ l. at_places x ∷ l) (insert_placed xs t n a.1 p)
      ] refl

  within_insert : (xs : List (PairTexts × ℕ)) (t : PairTexts) (n : ℕ) → AllWithin xs → Within t → AllWithin (insert_entry call_cmp xs t n)
  within_insert [] t n a p = (p, tt)
  within_insert (x ∷ xs) t n a p =
      elim (call_cmp t x.0) as (λ r. AllWithin (match_ordering r ((t, n) ∷ x ∷ xs) ((x.0, n) ∷ xs) (x ∷ insert_entry call_cmp xs t n))) [
        | Less ↦ (p, a)
        | Equal ↦ a
        | Greater ↦ (a.0, within_insert xs t n a.1 p)
      ]

  -- the services of the numbers are there, and these are their ranks
  abbrev IsRanked : (ℕ → ℕ) → PairNumbers × (PairTexts × ℕ) → Type 0
  IsRanked rank e = Within e.1.0 × ((rank e.0.0, rank e.0.1) ≡ places e.1.0)

  ranked_from : (rank : ℕ → ℕ) (es : LinkTallies) (xs : List (PairTexts × ℕ)) → AllByRecursion (IsRanked rank) es → AllWithin xs
      → fold (with_ranks rank) (map at_places xs) es ≡ map at_places (fold (put call_cmp) xs (map (λ (e : PairNumbers × (PairTexts × ℕ)). e.1) es))
  ranked_from rank [] xs a w = refl
  ranked_from rank (e ∷ es) xs a w =
      ap (λ k. fold (with_ranks rank) (insert_entry number_cmp (map at_places xs) k e.1) es) a.0.1
      ∙ ap (λ l. fold (with_ranks rank) l es) (insert_placed xs e.1.0 e.1.1 w a.0.0)
      ∙ ranked_from rank es (insert_entry call_cmp xs e.1.0 e.1.1) a.1 (within_insert xs e.1.0 e.1.1 w a.0.0)

  pub ranked_is : (rank : ℕ → ℕ) (es : LinkTallies) → AllByRecursion (IsRanked rank) es
      → map (λ (e : PairNumbers × (PairTexts × ℕ)). e.1) (ranked rank es) ≡ fold (put call_cmp) [] (map (λ (e : PairNumbers × (PairTexts × ℕ)). e.1) es)
  ranked_is rank es a =
      ap (map (λ (e : PairNumbers × (PairTexts × ℕ)). e.1)) (ranked_from rank es [] a tt)
      ∙ map-map (λ (e : PairNumbers × (PairTexts × ℕ)). e.1) at_places _ ∙ map-id _

or_true : (a b : Bool) → b ≡ true → (a || b) ≡ true
or_true true b e = refl
or_true false b e = e

-- ---- the ranks of numbers that represent services
module _ (text : ℕ → List ℕ) (number : List ℕ → ℕ) where
  abbrev Own : ℕ → Type 0
  Own n = n ≡ number (text n)

  abbrev Back : List ℕ → Type 0
  Back t = text (number t) ≡ t

  ties : (n k : ℕ) (t u : List ℕ) → (n ≡ k → t ≡ u) → (t ≡ u → n ≡ k) → (n == k) ≡ is_eq (text_cmp u t)
  ties n k t u texts numbers = elim (n == k) as (λ b. (n == k) ≡ b → b ≡ is_eq (text_cmp u t)) [
    | true ↦ λ e. sym (ap is_eq (ap (text_cmp u) (texts (eqb-true n k e)) ∙ tied_itself text_total u))
    | false ↦ λ e. elim (text_cmp u t) as (λ r. text_cmp u t ≡ r → false ≡ is_eq r) [
      | Less ↦ λ f. refl
      | Equal ↦ λ f. sym e ∙ eq-eqb n k (numbers (sym (text_exact u t f)))
      | Greater ↦ λ f. refl
    ] refl
  ] refl

  rank_is : (xs : List (List ℕ)) (n : ℕ) → AllByRecursion Back xs → Own n → has text_cmp (text n) xs ≡ true
      → rank_of (map number xs) n ≡ Some (place text_cmp xs (text n))
  rank_is [] n a own h = absurd (false≢true h)
  rank_is (x ∷ xs) n a own h =
      ap (λ b. cond b (Some 0) (option_map suc (rank_of (map number xs) n)))
      (ties (number x) n x (text n) (λ e. sym a.0 ∙ ap text e) (λ e. ap number e ∙ sym own))
      ∙ elim (is_eq (text_cmp (text n) x)) as (λ b. (b || has text_cmp (text n) xs) ≡ true
      → cond b (Some 0) (option_map suc (rank_of (map number xs) n)) ≡ Some (cond b 0 (suc (place text_cmp xs (text n))))) [
        | true ↦ λ g. refl
        | false ↦ λ g. ap (option_map suc) (rank_is xs n a.1 own g)
      ] h

  -- ---- the numbers by their names
  abbrev both : List PairNumbers → List ℕ
  both ks = flat_map (λ (k : PairNumbers). k.0 ∷ k.1 ∷ []) ks

  abbrev tallies : (PairNumbers → ℕ) → List PairNumbers → LinkTallies
  tallies n ks = map (λ k. (k, (texts_for text k, n k))) ks

  abbrev numbers_in : List PairNumbers → List ℕ
  numbers_in ks = sorted_set nat_cmp (both ks)

  abbrev names_in : List PairNumbers → List (List ℕ)
  names_in ks = sorted_set text_cmp (map text (numbers_in ks))

  met_from : (n : PairNumbers → ℕ) (ks : List PairNumbers) (ss : List NumberedService)
      → fold with_services ss (tallies n ks) ≡ fold (put nat_cmp) ss (with_values text (both ks))
  met_from n [] ss = refl
  met_from n (k ∷ ks) ss = met_from n ks (with_services ss (k, (texts_for text k, n k)))

  named_from : (ns : List (List ℕ × ℕ)) (xs : List ℕ) → AllByRecursion Own xs
      → fold with_name ns (with_values text xs) ≡ fold (put text_cmp) ns (with_values number (map text xs))
  named_from ns [] a = refl
  named_from ns (x ∷ xs) a =
      ap (λ v. fold with_name (insert_entry text_cmp ns (text x) v) (with_values text xs)) a.0
      ∙ named_from (insert_entry text_cmp ns (text x) (number (text x))) xs a.1

  by_name_is : (n : PairNumbers → ℕ) (ks : List PairNumbers) → AllByRecursion Own (both ks) → numbers_by_name (tallies n ks) ≡ map number (names_in ks)
  by_name_is n ks a =
      ap (λ ss. map (λ (e : List ℕ × ℕ). e.1) (fold with_name [] ss)) (met_from n ks [] ∙ put_all nat_cmp_total exact_unsigned text (both ks))
      ∙ ap (map (λ (e : List ℕ × ℕ). e.1))
      (named_from [] (numbers_in ks) (each_in_set nat_cmp Own (both ks) a) ∙ put_all text_total text_exact number (map text (numbers_in ks)))
      ∙ map-map (λ (e : List ℕ × ℕ). e.1) (λ t. (t, number t)) (names_in ks)

  backs : (xs : List ℕ) → AllByRecursion Own xs → AllByRecursion Back (map text xs)
  backs [] a = tt
  backs (x ∷ xs) a = (ap text (sym a.0), backs xs a.1)

  are_back : (ks : List PairNumbers) → AllByRecursion Own (both ks) → AllByRecursion Back (names_in ks)
  are_back ks a = each_in_set text_cmp Back (map text (numbers_in ks)) (backs (numbers_in ks) (each_in_set nat_cmp Own (both ks) a))

  names_has : (ks : List PairNumbers) (t : List ℕ) → has text_cmp t (names_in ks) ≡ has text_cmp t (map text (both ks))
  names_has ks t =
      sorted_set-has text_total t (map text (numbers_in ks)) ∙ any_map (eq_by_cmp text_cmp t) text (numbers_in ks)
      ∙ any_set exact_unsigned (λ n. eq_by_cmp text_cmp t (text n)) (both ks)
      ∙ sym (any_map (eq_by_cmp text_cmp t) text (both ks))

  abbrev OwnBoth : PairNumbers → Type 0
  OwnBoth k = Own k.0 × Own k.1

  own_both : (ks : List PairNumbers) → AllByRecursion OwnBoth ks → AllByRecursion Own (both ks)
  own_both [] a = tt
  own_both (k ∷ ks) a = (a.0.0, (a.0.1, own_both ks a.1))

  -- each of the tallies has its ranks
  have_ranks : (names : List (List ℕ)) (rises : IsStrictlySortedBy text_cmp names) (n : PairNumbers → ℕ) (ks : List PairNumbers) → AllByRecursion Back names
      → AllByRecursion OwnBoth ks
      → ((t : List ℕ) → has text_cmp t (map text (both ks)) ≡ true → has text_cmp t names ≡ true)
      → AllByRecursion (IsRanked names rises (λ m. unwrap_or (rank_of (map number names) m) 0)) (tallies n ks)
  have_ranks names rises n [] b a h = tt
  have_ranks names rises n (k ∷ ks) b a h =
      let first = h (text k.0) (ap (λ r. is_eq r || (is_eq (text_cmp (text k.0) (text k.1)) || has text_cmp (text k.0) (map text (both ks))))
      (tied_itself text_total (text k.0))) in
      let second = h (text k.1) (or_true (is_eq (text_cmp (text k.1) (text k.0))) _
      (ap (λ r. is_eq r || has text_cmp (text k.1) (map text (both ks))) (tied_itself text_total (text k.1)))) in
      let one : unwrap_or (rank_of (map number names) k.0) 0 ≡ place text_cmp names (text k.0) = ap (λ r. unwrap_or r 0) (rank_is names k.0 b a.0.0 first) in
      let two : unwrap_or (rank_of (map number names) k.1) 0 ≡ place text_cmp names (text k.1) = ap (λ r. unwrap_or r 0) (rank_is names k.1 b a.0.1 second) in (
        ((first, second), λ i. (one i, two i)),
        have_ranks names rises n ks b a.1 (λ t e. h t (or_true (is_eq (text_cmp t (text k.0))) _ (or_true (is_eq (text_cmp t (text k.1))) _ e))),
      )

  abbrev ranks_in : LinkTallies → ℕ → ℕ
  ranks_in es m = unwrap_or (rank_of (numbers_by_name es) m) 0

  in_order : (n : PairNumbers → ℕ) (ks : List PairNumbers) → AllByRecursion OwnBoth ks
      → map (λ (e : PairNumbers × (PairTexts × ℕ)). e.1) (ranked (ranks_in (tallies n ks)) (tallies n ks))
      ≡ fold (put call_cmp) [] (map (λ k. (texts_for text k, n k)) ks)
  in_order n ks a =
      let own = own_both ks a in
      let rises = sorted_set-rises text_total (map text (numbers_in ks)) in
      ap (λ l. map (λ (e : PairNumbers × (PairTexts × ℕ)). e.1) (ranked (λ m. unwrap_or (rank_of l m) 0) (tallies n ks))) (by_name_is n ks own)
      ∙ ranked_is (names_in ks) rises
      (λ m. unwrap_or (rank_of (map number (names_in ks)) m) 0) (tallies n ks)
      (have_ranks (names_in ks) rises n ks (are_back ks own) a (λ t e. names_has ks t ∙ e))
      ∙ ap (fold (put call_cmp) []) (map-map (λ (e : PairNumbers × (PairTexts × ℕ)). e.1) (λ k. (k, (texts_for text k, n k))) ks)

  -- ---- calls by their texts
  own_call : (c : NumberedCall) → StandsFor text number c.0 × StandsFor text number c.1 → OwnBoth (numbers_called c)
  own_call c p = (p.0.0 ∙ ap number (sym p.0.1), p.1.0 ∙ ap number (sym p.1.1))

  all_own : (cs : List NumberedCall) → AreCallsNumberedBy text number cs → AllByRecursion OwnBoth (map numbers_called cs)
  all_own [] a = tt
  all_own (c ∷ cs) a = (own_call c a.0, all_own cs a.1)

  all_texts_are : (cs : List NumberedCall) → AreCallsNumberedBy text number cs → map (texts_for text) (map numbers_called cs) ≡ map texts_called cs
  all_texts_are [] a = refl
  all_texts_are (c ∷ cs) a = λ i. (a.0.0.1 i, a.0.1.1 i) ∷ all_texts_are cs a.1 i

  same_there : (k : PairNumbers) (c : NumberedCall) → OwnBoth k → StandsFor text number c.0 × StandsFor text number c.1
      → same_numbers k (numbers_called c) ≡ same_call (texts_for text k) (texts_called c)
  same_there k c o p = λ i. same_by_number text number (k.0, text k.0) c.0 (o.0, refl) p.0 i && same_by_number text number (k.1, text k.1) c.1 (o.1, refl) p.1 i

  times_there : (k : PairNumbers) (cs : List NumberedCall) → OwnBoth k → AreCallsNumberedBy text number cs
      → times_called (map numbers_called cs) k ≡ count_by (same_call (texts_for text k)) (map texts_called cs)
  times_there k [] o a = refl
  times_there k (c ∷ cs) o a =
      sum_by-cons (λ x. cond (same_numbers k x) 1 0) (numbers_called c) (map numbers_called cs)
      ∙ (λ i. cond (same_there k c o a.0 i) 1 0 + times_there k cs o a.1 i)
      ∙ sym (sum_by-cons (λ x. cond (same_call (texts_for text k) x) 1 0) (texts_called c) (map texts_called cs))

  abbrev number_of : List NumberedCall → PairTexts → ℕ
  number_of cs t = count_by (same_call t) (map texts_called cs)

  by_texts : (cs : List NumberedCall) (ks : List PairNumbers) → AreCallsNumberedBy text number cs → AllByRecursion OwnBoth ks
      → map (λ k. (texts_for text k, times_called (map numbers_called cs) k)) ks ≡ with_values (number_of cs) (map (texts_for text) ks)
  by_texts cs [] a o = refl
  by_texts cs (k ∷ ks) a o = λ i. (texts_for text k, times_there k cs o.0 a i) ∷ by_texts cs ks a o.1 i

  -- each text once, whether numbers were sorted before or not
  texts_once : (ns : List PairNumbers) → sorted_set call_cmp (map (texts_for text) (sorted_set number_cmp ns)) ≡ sorted_set call_cmp (map (texts_for text) ns)
  texts_once ns =
      let left = map (texts_for text) (sorted_set number_cmp ns) in
      let right = map (texts_for text) ns in
      rises_same call_total call_exact (sorted_set call_cmp left) (sorted_set call_cmp right) (sorted_set-rises call_total left)
      (sorted_set-rises call_total right) (λ q.
      sorted_set-has call_total q left ∙ any_map (eq_by_cmp call_cmp q) (texts_for text) (sorted_set number_cmp ns)
      ∙ any_set number_exact (λ k. eq_by_cmp call_cmp q (texts_for text k)) ns
      ∙ sym (any_map (eq_by_cmp call_cmp q) (texts_for text) ns) ∙ sym (sorted_set-has call_total q right))

  -- a tally in order of its ranks, as links
  pub linked : (cs : List NumberedCall) → AreCallsNumberedBy text number cs
      → map (λ (e : PairNumbers × (PairTexts × ℕ)). link_of e.1)
      (ranked (ranks_in (tally_of text (map numbers_called cs))) (tally_of text (map numbers_called cs)))
      ≡ counted (map texts_called cs)
  linked cs a =
      let ns = map numbers_called cs in
      let ks = sorted_set number_cmp ns in
      let own = each_in_set number_cmp OwnBoth ns (all_own cs a) in
      let es = ranked (ranks_in (tally_of text ns)) (tally_of text ns) in
      sym (map-map link_of (λ (e : PairNumbers × (PairTexts × ℕ)). e.1) es)
      ∙ ap (map link_of) (
      in_order (times_called ns) ks own ∙ ap (fold (put call_cmp) []) (by_texts cs ks a own)
      ∙ put_all call_total call_exact (number_of cs) (map (texts_for text) ks)
      ∙ ap (with_values (number_of cs)) (texts_once ns ∙ ap (sorted_set call_cmp) (all_texts_are cs a))
      )
      ∙ map-map link_of (λ t. (t, number_of cs t)) (sorted_set call_cmp (map texts_called cs))
