-- Pairs that a search requests and that tags have.
use Rattle.std.proofs.Common.{◌≡◌, ℕ, ◌+◌, ◌*◌, ◌<◌, ◌≤◌, Bool, true, false, true≢false, ◌||◌, ◌&&◌, cond, List, [], ◌∷◌, ◌++◌, length, get_or, take, refl, sym}
use Rattle.std.proofs.Common.{ap, ◌∙◌, inl, inr, arith, Some, None, Option, Bor, Less, Equal, suc}
use Rattle.std.specs.Prelude.{◌%◌, ◌^◌, not, flat_map, if◌then◌else◌, ◌==◌, is_some, IfSome, option_copied}
use Rattle.std.specs.Int.{bit_at}
use Rattle.std.specs.Int.Bits.{bit_or}
use Rattle.std.specs.List.{AllByRecursion, IsDistinct, fold, list_any, list_all}
use Rattle.std.specs.List.Sorted.{IsStrictlySortedBy}
use Rattle.std.specs.Ordering.{eq_by_cmp, is_eq, nat_cmp}
use Rattle.std.specs.Cmp.{IsEquivalence, eq_by_cmp_equiv, nat_cmp_total}
use Rattle.std.specs.Cmp.Lexicographic.{nat_list_cmp_total, texts_ties, bytes_decides}
use Rattle.std.proofs.Math.Bool.{and-false, or-false}
use Rattle.std.proofs.lemmas.Bool.{both_ways, or_cases, or_parts, or_from, and_left, and_right, and_parts, false_from_ne_true}
use Rattle.std.proofs.lemmas.List.{take_more, flat_map_more}
use Rattle.std.proofs.lemmas.List.Sums.{fold_more}
use Rattle.std.proofs.lemmas.Nat.Bits.{bit_at_or, bit_at-lt, bit_at-pow_same}
use Rattle.std.proofs.lemmas.List.Folds.{list_any-append, list_any_more}
use Rattle.std.proofs.lemmas.Map.Keys.{IsDistinct-from_sorted}
use Rattle.std.proofs.lemmas.Map.Steps.{list_any_congr}
use Rattle.jaeger_model.specs.declared.batch.Process.{Process}
use Rattle.jaeger_model.specs.declared.placed.Placed.{Placed}
use Rattle.jaeger_model.specs.declared.span.Log.{Log}
use Rattle.jaeger_model.specs.declared.span.Span.{Span}
use Rattle.jaeger_model.specs.declared.tag.Tag.{Tag}
use Rattle.jaeger_model.specs.Tags.{tag_text, hex_text}
use Rattle.jaeger_model.specs.Texts.{text_cmp}
use Rattle.trace_model.specs.declared.query.Find.{Find}
use Rattle.trace_model.specs.ServiceLinks.{call_cmp as pair_cmp}
use Rattle.trace_model.specs.Searching.{tag_matches, has_tag, tags_of}
use Rattle.find_traces.specs.RequestedPairs.{pair_of, same_pair, pairs_lent, with_key, key_bits, requests_pair, requested_count}
use Rattle.find_traces.specs.RequestedPairs.{if_requested, has_pair, is_in, wants, may_be_number}
use Rattle.find_traces.specs.PreparedSearches.{IsJudged}
use Rattle.find_traces.proofs.CountedKeys.{few, counted, none_left}
use Rattle.trace_model.proofs.NameLaws.{call_total, call_exact, then_eq, any_map}

pub text_laws : IsEquivalence (eq_by_cmp text_cmp)
text_laws = eq_by_cmp_equiv nat_list_cmp_total

pub length_laws : IsEquivalence (eq_by_cmp nat_cmp)
length_laws = eq_by_cmp_equiv nat_cmp_total

pub pair_laws : IsEquivalence same_pair
pair_laws = eq_by_cmp_equiv call_total

pub distinct_pairs : (ps : List (List ℕ × List ℕ)) → IsStrictlySortedBy pair_cmp ps → IsDistinct same_pair ps
distinct_pairs ps s = IsDistinct-from_sorted pair_cmp ps s

-- ---- tests
put_last : (e m : Bool) → cond e true m ≡ (m || e)
put_last true true = refl
put_last true false = refl
put_last false true = refl
put_last false false = refl

one_more : (o w m e : Bool) → ((o || (w && m)) || (w && e)) ≡ (o || (w && (m || e)))
one_more true w m e = refl
one_more false true m e = refl
one_more false false m e = refl

-- ---- one more key, length or pair is inserted
pub put_more : {K : Type 0} {same : K → K → Bool} → IsEquivalence same
    → (f : List ℕ × List ℕ → K) (n o : List K) (xs : List (List ℕ × List ℕ)) (i : ℕ) (x : List ℕ × List ℕ) (y : K)
    → i < length xs → x ≡ get_or xs i x → y ≡ f x → (k : K) → list_any (same k) n ≡ cond (same y k) true (list_any (same k) o)
    → list_any (same k) o ≡ list_any (λ (a : List ℕ × List ℕ). same k (f a)) (take i xs)
    → list_any (same k) n ≡ list_any (λ (a : List ℕ × List ℕ). same k (f a)) (take (i + 1) xs)
put_more {same = same} laws f n o xs i x y le is put_is k put before =
    put ∙ put_last (same y k) (list_any (same k) o)
    ∙ (λ j. before j || (laws.symm y k ∙ ap (same k) (put_is ∙ ap f is)) j)
    ∙ sym (list_any_more (λ (a : List ℕ × List ℕ). same k (f a)) xs i x le)

-- ---- what is requested
-- a pair that differs from each pair that fails a test is not among pairs that all fail it
no_part : (p : List ℕ × List ℕ → Bool) (a : List ℕ × List ℕ) → ((x : List ℕ × List ℕ) → p x ≡ false → same_pair a x ≡ false) → (xs : List (List ℕ × List ℕ))
    → list_any p xs ≡ false → list_any (same_pair a) xs ≡ false
no_part p a apart [] h = refl
no_part p a apart (x ∷ xs) h =
    let parts = or_parts (p x) (list_any p xs) h in
    or_from (same_pair a x) (list_any (same_pair a) xs) (apart x parts.0) (no_part p a apart xs parts.1)

pub no_key : (xs : List (List ℕ × List ℕ)) (k t : List ℕ) → list_any (λ (a : List ℕ × List ℕ). eq_by_cmp text_cmp k a.0) xs ≡ false
    → list_any (same_pair (k, t)) xs ≡ false
no_key xs k t =
    no_part (λ a. eq_by_cmp text_cmp k a.0) (k, t)
    (λ x e. then_eq (text_cmp k x.0) (text_cmp t x.1) ∙ and_left (is_eq (text_cmp k x.0)) (is_eq (text_cmp t x.1)) e) xs

-- ---- the length of a value's text
pub hex_length : (bytes : List ℕ) → 2 * length bytes ≡ length (hex_text bytes)
hex_length [] = refl
hex_length (b ∷ bytes) = let rest = hex_length bytes in omega (arith, rest)

-- ---- bits for the lengths of keys
pub bits_put : (xs : List (List ℕ × List ℕ)) (i : ℕ) (x : List ℕ × List ℕ) → i < length xs → x ≡ get_or xs i x
    → with_key (key_bits (take i xs)) x ≡ key_bits (take (i + 1) xs)
bits_put xs i x le is = ap (with_key (key_bits (take i xs))) is ∙ sym (fold_more with_key 0 xs i x le)

bit_still : (b : ℕ) (xs : List (List ℕ × List ℕ)) (k : ℕ) → bit_at b k ≡ 1 → bit_at (fold with_key b xs) k ≡ 1
bit_still b [] k e = e
bit_still b (x ∷ xs) k e = bit_still (with_key b x) xs k (bit_at_or b (2 ^ (length x.0 % 64)) k ∙ omega (arith, e, bit_at-lt (2 ^ (length x.0 % 64)) k))

pub bit_own : (b k : ℕ) → bit_at (bit_or b (2 ^ k)) k ≡ 1
bit_own b k = bit_at_or b (2 ^ k) k ∙ omega (arith, bit_at-pow_same k, bit_at-lt b k)

any_bit : (b : ℕ) (xs : List (List ℕ × List ℕ)) (k : List ℕ) → list_any (λ (a : List ℕ × List ℕ). eq_by_cmp text_cmp k a.0) xs ≡ true
    → bit_at (fold with_key b xs) (length k % 64) ≡ 1
any_bit b [] k h = absurd (true≢false (sym h))
any_bit b (x ∷ xs) k h = elim (or_cases (eq_by_cmp text_cmp k x.0) (list_any (λ (a : List ℕ × List ℕ). eq_by_cmp text_cmp k a.0) xs) h) [
  | inl e ↦
      let same : k ≡ x.0 = (bytes_decides k x.0).0 (texts_ties k x.0 ∙ e) in
      bit_still (with_key b x) xs (length k % 64) (ap (λ (y : List ℕ). bit_at (with_key b x) (length y % 64)) same ∙ bit_own b (length x.0 % 64))
  | inr more ↦ any_bit (with_key b x) xs k more
]

-- a key whose length has no bit is not requested
pub no_bit : (xs : List (List ℕ × List ℕ)) (k t : List ℕ) → (bit_at (key_bits xs) (length k % 64) == 1) ≡ false → list_any (same_pair (k, t)) xs ≡ false
no_bit xs k t h = no_key xs k t (false_from_ne_true _ (λ e. both_ways _ h (ap (λ n. n == 1) (any_bit 0 xs k e))))

-- texts of other lengths are other texts
other_length : (s t : List ℕ) → eq_by_cmp nat_cmp (length s) (length t) ≡ false → is_eq (text_cmp s t) ≡ false
other_length s t h = false_from_ne_true (is_eq (text_cmp s t)) (λ e.
    let same : s ≡ t = (bytes_decides s t).0 (texts_ties s t ∙ e) in
    both_ways (eq_by_cmp nat_cmp (length s) (length t)) h (ap (λ y. eq_by_cmp nat_cmp (length s) (length y)) (sym same) ∙ length_laws.refl (length s)))

pub no_length : (xs : List (List ℕ × List ℕ)) (k t : List ℕ) → list_any (λ (a : List ℕ × List ℕ). eq_by_cmp nat_cmp (length t) (length a.1)) xs ≡ false
    → list_any (same_pair (k, t)) xs ≡ false
no_length xs k t =
    no_part (λ a. eq_by_cmp nat_cmp (length t) (length a.1)) (k, t)
    (λ x e. then_eq (text_cmp k x.0) (text_cmp t x.1) ∙ and_right (is_eq (text_cmp k x.0)) (is_eq (text_cmp t x.1)) (other_length t x.1 e)) xs

-- a text that may be that of a number differs from each text that may not
other_number : (s t : List ℕ) → may_be_number s ≡ true → may_be_number t ≡ false → is_eq (text_cmp s t) ≡ false
other_number s t number h = false_from_ne_true (is_eq (text_cmp s t)) (λ e.
    let same : s ≡ t = (bytes_decides s t).0 (texts_ties s t ∙ e) in both_ways (may_be_number t) h (ap may_be_number (sym same) ∙ number))

pub no_number : (xs : List (List ℕ × List ℕ)) (k t : List ℕ) → may_be_number t ≡ true
    → list_any (λ (a : List ℕ × List ℕ). may_be_number a.1) xs ≡ false → list_any (same_pair (k, t)) xs ≡ false
no_number xs k t number =
    no_part (λ a. may_be_number a.1) (k, t)
    (λ x e. then_eq (text_cmp k x.0) (text_cmp t x.1) ∙ and_right (is_eq (text_cmp k x.0)) (is_eq (text_cmp t x.1)) (other_number t x.1 number e)) xs

pub requested_some : (q : Find) (x p : List ℕ × List ℕ) → if_requested q x ≡ Some p → (requests_pair q x ≡ true) × (p ≡ x)
requested_some q x p h = by (requests_pair q x) refl h
  where
    by : (b : Bool) → requests_pair q x ≡ b → (if b then Some x else None) ≡ Some p → (requests_pair q x ≡ true) × (p ≡ x)
    by true e g = (e, cc)
    by false e g = absurd cc

-- what a look-up among the requested pairs finds
pub requested_got : (q : Find) (ps : List (List ℕ × List ℕ)) (x : List ℕ × List ℕ) (found : Option (Bor (List ℕ × List ℕ)))
    → ((a : List ℕ × List ℕ) → is_in ps a ≡ requests_pair q a) → is_some found ≡ is_in ps x → IfSome found (λ r. pair_cmp x r.now ≡ Equal)
    → option_copied found ≡ if_requested q x
requested_got q ps x None requested there same = ap (λ b. if b then Some x else None) (there ∙ requested x)
requested_got q ps x (Some r) requested there same = ap Some (sym (call_exact x r.now same)) ∙ ap (λ b. if b then Some x else None) (there ∙ requested x)

-- ---- pairs that are referred to
pub lent_length : (rs : List (Bor (List ℕ × List ℕ))) → length (pairs_lent rs) ≡ length rs
lent_length [] = refl
lent_length (r ∷ rs) = ap suc (lent_length rs)

pub lent_in : (a : List ℕ × List ℕ) (rs : List (Bor (List ℕ × List ℕ))) → is_in (pairs_lent rs) a ≡ list_any (λ r. same_pair a r.now) rs
lent_in a rs = any_map (same_pair a) (λ r. r.now) rs

lent_above : (r : Bor (List ℕ × List ℕ)) (rs : List (Bor (List ℕ × List ℕ))) → AllByRecursion (λ s. pair_cmp r.now s.now ≡ Less) rs
    → AllByRecursion (λ b. pair_cmp r.now b ≡ Less) (pairs_lent rs)
lent_above r [] all = tt
lent_above r (s ∷ rs) all = (all.0, lent_above r rs all.1)

pub lent_sorted : (rs : List (Bor (List ℕ × List ℕ))) → IsStrictlySortedBy (λ r s. pair_cmp r.now s.now) rs → IsStrictlySortedBy pair_cmp (pairs_lent rs)
unfolding IsStrictlySortedBy
lent_sorted [] s = tt
lent_sorted (r ∷ rs) s = (lent_above r rs s.0, lent_sorted rs s.1)

pub requested_none : (q : Find) (x : List ℕ × List ℕ) → if_requested q x ≡ None → requests_pair q x ≡ false
requested_none q x h = by (requests_pair q x) refl h
  where
    by : (b : Bool) → requests_pair q x ≡ b → (if b then Some x else None) ≡ None → requests_pair q x ≡ false
    by true e g = absurd cc
    by false e g = e

-- ---- one more tag
wants_alike : (q : Find) (others : List (List ℕ × List ℕ)) (a x : List ℕ × List ℕ) → same_pair a x ≡ true → wants q others a ≡ wants q others x
wants_alike q others a x e = λ i. list_any_congr pair_laws a x q.tags e i && not (list_any_congr pair_laws a x others e i)

pub wants_new : (q : Find) (others : List (List ℕ × List ℕ)) (x p : List ℕ × List ℕ) → requests_pair q x ≡ true → p ≡ x → is_in others p ≡ false
    → wants q others x ≡ true
wants_new q others x p requested is absent = λ i. requested i && not ((ap (is_in others) (sym is) ∙ absent) i)

pub wants_old : (q : Find) (others : List (List ℕ × List ℕ)) (x p : List ℕ × List ℕ) → p ≡ x → is_in others p ≡ true → wants q others x ≡ false
wants_old q others x p is there = ap (λ b. requests_pair q x && not b) (ap (is_in others) (sym is) ∙ there) ∙ and-false (requests_pair q x)

pub wants_none : (q : Find) (others : List (List ℕ × List ℕ)) (x : List ℕ × List ℕ) → requests_pair q x ≡ false → wants q others x ≡ false
wants_none q others x e = ap (λ b. b && not (is_in others x)) e

pub met_put : (q : Find) (others n o : List (List ℕ × List ℕ)) (x : List ℕ × List ℕ) → wants q others x ≡ true
    → (a : List ℕ × List ℕ) → is_in n a ≡ cond (same_pair x a) true (is_in o a) → is_in n a ≡ (is_in o a || (wants q others a && same_pair a x))
met_put q others n o x w a put = put ∙ put_last (same_pair x a) (is_in o a) ∙ ap (λ b. is_in o a || b) (pair_laws.symm x a ∙ by (same_pair a x) refl)
  where
    by : (b : Bool) → same_pair a x ≡ b → b ≡ (wants q others a && b)
    by true e = sym (ap (λ v. v && true) (wants_alike q others a x e ∙ w))
    by false e = sym (and-false (wants q others a))

pub met_same : (q : Find) (others o : List (List ℕ × List ℕ)) (x : List ℕ × List ℕ) → wants q others x ≡ false
    → (a : List ℕ × List ℕ) → is_in o a ≡ (is_in o a || (wants q others a && same_pair a x))
met_same q others o x w a = sym (or-false (is_in o a)) ∙ ap (λ b. is_in o a || b) (by (same_pair a x) refl)
  where
    by : (b : Bool) → same_pair a x ≡ b → false ≡ (wants q others a && b)
    by true e = sym (ap (λ v. v && true) (wants_alike q others a x e ∙ w))
    by false e = sym (and-false (wants q others a))

pub tag_more : (q : Find) (others n o first : List (List ℕ × List ℕ)) (ts : List Tag) (i : ℕ) (t : Tag) → i < length ts → t ≡ get_or ts i t
    → (a : List ℕ × List ℕ) → is_in n a ≡ (is_in o a || (wants q others a && same_pair a (pair_of t)))
    → is_in o a ≡ (is_in first a || (wants q others a && has_pair (take i ts) a))
    → is_in n a ≡ (is_in first a || (wants q others a && has_pair (take (i + 1) ts) a))
tag_more q others n o first ts i t le is a put before =
    put ∙ ap (λ b. b || (wants q others a && same_pair a (pair_of t))) before
    ∙ one_more (is_in first a) (wants q others a) (has_pair (take i ts) a) (same_pair a (pair_of t))
    ∙ ap (λ b. is_in first a || (wants q others a && b))
    (ap (λ y. has_pair (take i ts) a || same_pair a (pair_of y)) is ∙ sym (list_any_more (λ (y : Tag). same_pair a (pair_of y)) ts i t le))

abbrev pub fields_of : List Log → List Tag
fields_of ls = flat_map (λ (l : Log). l.fields) ls

fields_last : (ls : List Log) (l : Log) → fields_of (ls ++ l ∷ []) ≡ fields_of ls ++ l.fields
fields_last ls l = sym (flat_map_more (λ (x : Log). x.fields) [] ls l)

pub log_more : (q : Find) (others n o first : List (List ℕ × List ℕ)) (ls : List Log) (i : ℕ) (l : Log) → i < length ls → l ≡ get_or ls i l
    → (a : List ℕ × List ℕ) → is_in n a ≡ (is_in o a || (wants q others a && has_pair l.fields a))
    → is_in o a ≡ (is_in first a || (wants q others a && has_pair (fields_of (take i ls)) a))
    → is_in n a ≡ (is_in first a || (wants q others a && has_pair (fields_of (take (i + 1) ls)) a))
log_more q others n o first ls i l le is a put before =
    put ∙ ap (λ b. b || (wants q others a && has_pair l.fields a)) before
    ∙ one_more (is_in first a) (wants q others a) (has_pair (fields_of (take i ls)) a) (has_pair l.fields a)
    ∙ ap (λ b. is_in first a || (wants q others a && b)) (
    sym (list_any-append (λ (y : Tag). same_pair a (pair_of y)) (fields_of (take i ls)) l.fields)
    ∙ ap (λ ts. has_pair ts a) (sym (fields_last (take i ls) l) ∙ ap (λ y. fields_of (take i ls ++ y ∷ [])) is ∙ ap fields_of (sym (take_more ls i l le))))

-- ---- the tags of a span
tag_matches-same : (a : List ℕ × List ℕ) (t : Tag) → tag_matches a t ≡ same_pair a (pair_of t)
tag_matches-same a t =
    (λ i. texts_ties a.0 t.key i && texts_ties a.1 (tag_text t.value) i) ∙ sym (then_eq (text_cmp a.0 t.key) (text_cmp a.1 (tag_text t.value)))

any_has_pair : (a : List ℕ × List ℕ) (ts : List Tag) → list_any (tag_matches a) ts ≡ has_pair ts a
any_has_pair a [] = refl
any_has_pair a (t ∷ ts) = λ i. tag_matches-same a t i || any_has_pair a ts i

has_pair-alike : (ts : List Tag) (a b : List ℕ × List ℕ) → same_pair a b ≡ true → has_pair ts a ≡ has_pair ts b
has_pair-alike [] a b e = refl
has_pair-alike (t ∷ ts) a b e = λ i. pair_laws.congr a b (pair_of t) e i || has_pair-alike ts a b e i

regroup : (s o l : Bool) → ((s || o) || l) ≡ ((s || l) || o)
regroup true o l = refl
regroup false true true = refl
regroup false true false = refl
regroup false false l = sym (or-false l)

module _ (q : Find) (o : Process) (s : Span) where
  abbrev here : Placed
  here = record { process = o; span = s }

  has_tag-pairs : (a : List ℕ × List ℕ) → has_tag here a ≡ ((has_pair s.tags a || has_pair (fields_of s.logs) a) || has_pair o.tags a)
  has_tag-pairs a =
      any_has_pair a (tags_of here)
      ∙ list_any-append (λ (y : Tag). same_pair a (pair_of y)) (s.tags ++ o.tags) (fields_of s.logs)
      ∙ ap (λ b. b || has_pair (fields_of s.logs) a) (list_any-append (λ (y : Tag). same_pair a (pair_of y)) s.tags o.tags)
      ∙ regroup (has_pair s.tags a) (has_pair o.tags a) (has_pair (fields_of s.logs) a)

  has_alike : (a b : List ℕ × List ℕ) → same_pair a b ≡ true → has_tag here a ≡ has_tag here b
  has_alike a b e = any_has_pair a (tags_of here) ∙ has_pair-alike (tags_of here) a b e ∙ sym (any_has_pair b (tags_of here))

  pub all_requested : (own met : List (List ℕ × List ℕ)) (missing : ℕ) → IsJudged q o met missing → IsStrictlySortedBy pair_cmp own
      → ((a : List ℕ × List ℕ) → is_in own a ≡ (wants q met a && (has_pair s.tags a || has_pair (fields_of s.logs) a)))
      → (length own == missing) ≡ list_all (has_tag here) q.tags
  all_requested own met missing j rising own_is =
      counted pair_laws (has_tag here) (λ a. has_pair s.tags a || has_pair (fields_of s.logs) a) (has_pair o.tags) has_alike has_tag-pairs q.tags own met
      (distinct_pairs own rising) (distinct_pairs met j.rising) own_is j.requested missing j.count

  pub none_requested : (met : List (List ℕ × List ℕ)) (missing : ℕ) → IsJudged q o met missing → missing ≡ 0 → true ≡ list_all (has_tag here) q.tags
  none_requested met missing j none =
      let count = j.count in
      none_left pair_laws (has_tag here)
      (λ a. has_pair s.tags a || has_pair (fields_of s.logs) a) (has_pair o.tags) has_tag-pairs q.tags met (distinct_pairs met j.rising) j.requested
      (omega arith)

-- ---- the tags of a process
pub met_few : (q : Find) (o : Process) (met : List (List ℕ × List ℕ)) → IsStrictlySortedBy pair_cmp met
    → ((a : List ℕ × List ℕ) → is_in met a ≡ (requests_pair q a && has_pair o.tags a)) → length met ≤ requested_count q
met_few q o met rising is = few pair_laws q.tags met (distinct_pairs met rising) (λ a m. (and_parts (requests_pair q a) (has_pair o.tags a) (sym (is a) ∙ m)).0)
