-- Calls counted one by one are a tally of their numbers.
use Rattle.std.proofs.Common.{◌≡◌, ℕ, ◌+◌, Bool, true, false, ◌&&◌, ◌||◌, cond, List, [], ◌∷◌, ◌++◌, map, refl, sym, ap, ◌∙◌, add-zero, zero-add, append_assoc}
use Rattle.std.specs.Prelude.{count_by, fold, Some, None, is_some, unwrap_or, option_map}
use Rattle.std.specs.List.{AllByRecursion}
use Rattle.std.specs.List.Sorted.{IsStrictlySortedBy}
use Rattle.std.specs.Map.{keys_of, lookup, set_value}
use Rattle.std.specs.BTreeMap.{insert_entry, is_at}
use Rattle.std.specs.declared.cmp.Ordering.TheVariants.{Less, Equal, Greater}
use Rattle.std.specs.Ordering.{nat_cmp, is_eq, match_ordering}
use Rattle.std.specs.Cmp.{IsTotalOrder, tied_itself, on_total, unsigned_ties}
use Rattle.std.proofs.lemmas.Cmp.{then_total, nat_cmp_total}
use Rattle.std.proofs.lemmas.List.{append-nil}
use Rattle.std.proofs.lemmas.List.Sums.{fold_push, fold-append, sum_by-append, sum_by-cons}
use Rattle.std.proofs.lemmas.Bool.{false≢true}
use Rattle.std.proofs.lemmas.Map.Lookups.{exact_pairs, exact_unsigned}
use Rattle.jaeger_model.specs.Texts.{insert_once, sorted_set}
use Rattle.trace_model.specs.TakenSpans.{Taken}
use Rattle.trace_model.proofs.NameLaws.{then_eq, is_eq-reverse}
use Rattle.trace_model.proofs.SortedSets.{has, sorted_set-rises, sorted_set-has}
use Rattle.call_links.specs.declared.tally.LinkTally.{LinkTally}
use Rattle.call_links.specs.NumberedCalls.{CallSpans, NumberedCall, numbered_call, text_in, StandsFor}
use Rattle.call_links.specs.NumberedCalls.{AreCallsNumberedBy, texts_called, numbers_called, calls_in_trace}
use Rattle.call_links.specs.NumberedCalls.{calls_in_traces}
use Rattle.call_links.specs.LinkTallies.{PairNumbers, PairTexts, LinkTallies, number_cmp, same_numbers, times_called}
use Rattle.call_links.specs.LinkTallies.{tally_seen, tallies_seen, so_far, with_call, with_trace, tallied}
use Rattle.call_links.specs.LinkTallies.{texts_for, tally_of}
use Rattle.call_links.proofs.Pairs.{insert_through, insert_paired, lookup_paired, paired_is}

pub number_total : IsTotalOrder number_cmp
number_total = then_total (on_total (λ (c : PairNumbers). c.0) nat_cmp_total) (on_total (λ (c : PairNumbers). c.1) nat_cmp_total)

pub number_exact : (x y : PairNumbers) → number_cmp x y ≡ Equal → x ≡ y
number_exact = exact_pairs nat_cmp nat_cmp exact_unsigned exact_unsigned

-- ---- the count of a pair of numbers
-- the test of two pairs of numbers is the tie of their order
same_is : (c k : PairNumbers) → same_numbers c k ≡ is_eq (number_cmp c k)
same_is c k = (λ i. unsigned_ties c.0 k.0 i && unsigned_ties c.1 k.1 i) ∙ sym (then_eq (nat_cmp c.0 k.0) (nat_cmp c.1 k.1))

count_push : (p : PairNumbers → Bool) (cs : List PairNumbers) (c : PairNumbers) → count_by p (cs ++ c ∷ []) ≡ count_by p cs + cond (p c) 1 0
count_push p cs c = sum_by-append (λ x. cond (p x) 1 0) cs (c ∷ []) ∙ ap (λ n. count_by p cs + n) (zero-add (cond (p c) 1 0))

none_counted : (c : PairNumbers) (cs : List PairNumbers) → has number_cmp c cs ≡ false → times_called cs c ≡ 0
none_counted c [] e = refl
none_counted c (k ∷ cs) e =
    sum_by-cons (λ x. cond (same_numbers c x) 1 0) k cs
    ∙ elim (is_eq (number_cmp c k)) as (λ b. is_eq (number_cmp c k) ≡ b → (b || has number_cmp c cs) ≡ false
    → cond (same_numbers c k) 1 0 + times_called cs c ≡ 0) [
      | true ↦ λ q h. absurd (false≢true (sym h))
      | false ↦ λ q h. ap (λ b. cond b 1 0 + times_called cs c) (same_is c k ∙ q) ∙ zero-add (times_called cs c) ∙ none_counted c cs h
    ] refl e

flip : (c k : PairNumbers) → same_numbers k c ≡ is_eq (number_cmp c k)
flip c k = same_is k c ∙ ap is_eq (number_total.antisymm k c) ∙ is_eq-reverse (number_cmp c k)

itself : (c : PairNumbers) → same_numbers c c ≡ true
itself c = same_is c c ∙ ap is_eq (tied_itself number_total c)

one_more : (cs : List PairNumbers) (c k : PairNumbers) → is_eq (number_cmp c k) ≡ false → times_called (cs ++ c ∷ []) k ≡ times_called cs k
one_more cs c k e = count_push (same_numbers k) cs c ∙ ap (λ b. times_called cs k + cond b 1 0) (flip c k ∙ e) ∙ add-zero _

or_none : (b : Bool) (n : ℕ) (t : PairTexts) → (b ≡ false → n ≡ 0) → unwrap_or (option_map (λ (x : PairTexts × ℕ). x.1) (cond b (Some (t, n)) None)) 0 ≡ n
or_none true n t h = refl
or_none false n t h = sym (h refl)

-- the count of a call so far, by the table
so_far_seen : (es : List (PairNumbers × LinkTally)) (k : PairNumbers)
    → so_far (tallies_seen es) k ≡ unwrap_or (option_map (λ (t : LinkTally). t.calls) (lookup (is_at (number_cmp k)) es)) 0
so_far_seen [] k = refl
so_far_seen (e ∷ es) k =
    elim (is_eq (number_cmp k e.0)) as (λ b.
    unwrap_or (option_map (λ (t : PairTexts × ℕ). t.1) (cond b (Some (tally_seen e).1) (lookup (is_at (number_cmp k)) (tallies_seen es)))) 0
    ≡ unwrap_or (option_map (λ (t : LinkTally). t.calls) (cond b (Some e.1) (lookup (is_at (number_cmp k)) es))) 0) [
      | true ↦ refl
      | false ↦ so_far_seen es k
    ]

-- one tally inserted
pub tally_put : (es : List (PairNumbers × LinkTally)) (k : PairNumbers) (t : LinkTally)
    → tallies_seen (insert_entry number_cmp es k t) ≡ insert_entry number_cmp (tallies_seen es) k (tally_seen (k, t)).1
tally_put es k t = insert_through number_cmp (λ n. n) (λ (t : LinkTally). ((text_in t.caller.span, text_in t.callee.span), t.calls)) es k t

pub call_put : (es : List (PairNumbers × LinkTally)) (c : CallSpans) (calls : ℕ)
    → calls ≡ unwrap_or (option_map (λ (t : LinkTally). t.calls) (lookup (is_at (number_cmp (numbers_called (numbered_call c)))) es)) 0 + 1
    → tallies_seen (insert_entry number_cmp es (numbers_called (numbered_call c)) (record { caller = c.0.now; callee = c.1.now; calls = calls }))
    ≡ with_call (tallies_seen es) (numbered_call c)
call_put es c calls e =
    let k = numbers_called (numbered_call c) in
    tally_put es k (record { caller = c.0.now; callee = c.1.now; calls = calls })
    ∙ ap (λ n. insert_entry number_cmp (tallies_seen es) k (texts_called (numbered_call c), n)) (e ∙ ap (λ n. n + 1) (sym (so_far_seen es k)))

-- ---- a value written at a key that is there is inserted
below_all : (k j : PairNumbers) (es : List (PairNumbers × LinkTally)) → number_cmp k j ≡ Less → AllByRecursion (λ y. number_cmp j y ≡ Less) (keys_of es)
    → lookup (is_at (number_cmp k)) es ≡ None
below_all k j [] l b = refl
below_all k j (e ∷ es) l b =
    ap (λ r. cond (is_eq r) (Some e.1) (lookup (is_at (number_cmp k)) es)) (number_total.trans k j e.0 l b.0) ∙ below_all k j es l b.1

pub written_is_put : (es : List (PairNumbers × LinkTally)) (k : PairNumbers) (v w : LinkTally) → IsStrictlySortedBy number_cmp (keys_of es)
    → lookup (is_at (number_cmp k)) es ≡ Some v → set_value (is_at (number_cmp k)) es w ≡ insert_entry number_cmp es k w
unfolding IsStrictlySortedBy
written_is_put [] k v w r h = absurd cc
written_is_put (e ∷ es) k v w r h =
    elim (number_cmp k e.0) as (λ a. number_cmp k e.0 ≡ a → cond (is_eq a) (Some e.1) (lookup (is_at (number_cmp k)) es) ≡ Some v
    → cond (is_eq a) ((e.0, w) ∷ es) (e ∷ set_value (is_at (number_cmp k)) es w)
    ≡ match_ordering a ((k, w) ∷ e ∷ es) ((e.0, w) ∷ es) (e ∷ insert_entry number_cmp es k w)) [
      | Less ↦ λ q f. absurd (false≢true (ap is_some (sym (below_all k e.0 es q r.0) ∙ f)))
      | Equal ↦ λ q f. refl
      | Greater ↦ λ q f. ap (λ l. e ∷ l) (written_is_put es k v w r.1 f)
    ] refl h

-- ---- calls one by one
module _ (text : ℕ → List ℕ) (number : List ℕ → ℕ) where
  abbrev values : List PairNumbers → PairNumbers → PairTexts × ℕ
  values ns k = (texts_for text k, times_called ns k)

  -- the count of a call so far
  counted_so_far : (ns : List PairNumbers) (c : PairNumbers) → so_far (tally_of text ns) c ≡ times_called ns c
  counted_so_far ns c =
      ap (λ l. unwrap_or (option_map (λ (x : PairTexts × ℕ). x.1) (lookup (is_at (number_cmp c)) l)) 0)
      (paired_is number_total number_exact (values ns) (sorted_set number_cmp ns))
      ∙ ap (λ o. unwrap_or (option_map (λ (x : PairTexts × ℕ). x.1) o) 0) (lookup_paired number_total number_exact (values ns) c (sorted_set number_cmp ns))
      ∙ ap (λ b. unwrap_or (option_map (λ (x : PairTexts × ℕ). x.1) (cond b (Some (values ns c)) None)) 0) (sorted_set-has number_total c ns)
      ∙ or_none (has number_cmp c ns) (times_called ns c) (texts_for text c) (none_counted c ns)

  texts_are : (c : NumberedCall) → StandsFor text number c.0 × StandsFor text number c.1 → texts_for text (numbers_called c) ≡ texts_called c
  texts_are c p = λ i. (p.0.1 i, p.1.1 i)

  tally_next : (ns : List PairNumbers) (c : NumberedCall) → StandsFor text number c.0 × StandsFor text number c.1
      → with_call (tally_of text ns) c ≡ tally_of text (ns ++ numbers_called c ∷ [])
  tally_next ns c p =
      let k = numbers_called c in
      let ks = sorted_set number_cmp ns in
      let count : times_called (ns ++ k ∷ []) k ≡ so_far (tally_of text ns) k + 1 =
      count_push (same_numbers k) ns k ∙ ap (λ b. times_called ns k + cond b 1 0) (itself k) ∙ ap (λ m. m + 1) (sym (counted_so_far ns k)) in
      let value : values (ns ++ k ∷ []) k ≡ (texts_called c, so_far (tally_of text ns) k + 1) = λ i. (texts_are c p i, count i) in
      sym (
      ap (λ l. map {B = PairNumbers × (PairTexts × ℕ)} (λ k. (k, values (ns ++ numbers_called c ∷ []) k)) l) (fold_push (insert_once number_cmp) [] ns k)
      ∙ paired_is number_total number_exact (values (ns ++ k ∷ [])) (insert_once number_cmp ks k)
      ∙ insert_paired number_total number_exact (values ns) (values (ns ++ k ∷ [])) k (texts_called c, so_far (tally_of text ns) k + 1)
      (λ q e. ap (λ n. (texts_for text q, n)) (one_more ns k q e)) value ks (sorted_set-rises number_total ns)
      ∙ ap (λ l. insert_entry number_cmp l k (texts_called c, so_far (tally_of text ns) k + 1)) (sym (paired_is number_total number_exact (values ns) ks))
      )

  tally_from : (ns : List PairNumbers) (cs : List NumberedCall) → AreCallsNumberedBy text number cs
      → fold with_call (tally_of text ns) cs ≡ tally_of text (ns ++ map numbers_called cs)
  tally_from ns [] a = ap (tally_of text) (sym (append-nil ns))
  tally_from ns (c ∷ cs) a =
      ap (λ es. fold with_call es cs) (tally_next ns c a.0) ∙ tally_from (ns ++ numbers_called c ∷ []) cs a.1
      ∙ ap (tally_of text) (append_assoc ns (numbers_called c ∷ []) (map numbers_called cs))

  traces_from : (es : LinkTallies) (ts : List (List Taken)) → fold with_trace es ts ≡ fold with_call es (calls_in_traces ts)
  traces_from es [] = refl
  traces_from es (t ∷ ts) = traces_from (with_trace es t) ts ∙ sym (fold-append with_call es (calls_in_trace t) (calls_in_traces ts))

  -- the calls of traces
  pub tallied_is : (ts : List (List Taken)) → AreCallsNumberedBy text number (calls_in_traces ts)
      → tallied ts ≡ tally_of text (map numbers_called (calls_in_traces ts))
  tallied_is ts a = traces_from [] ts ∙ tally_from [] (calls_in_traces ts) a
