-- If the bit of a requested tag is not set, no span of the entry has the tag.
use Rattle.std.proofs.Common.{◌≡◌, ℕ, ◌<◌, ◌/◌, ◌%◌, ◌^◌, Bool, true, false, ◌&&◌, ◌||◌, List, [], ◌∷◌, ◌++◌, length, get_or, flat_map, refl, sym, ap, ◌∙◌}
use Rattle.std.proofs.Common.{arith, eq-eqb, bit_or, ⊎_elim}
use Rattle.std.specs.Int.{bit_at}
use Rattle.std.specs.List.{list_any, list_all, AllByRecursion, fold}
use Rattle.std.specs.Cmp.Lexicographic.{same_text as texts_are}
use Rattle.std.proofs.lemmas.Bool.{false≢true, and_parts, cases_eq}
use Rattle.std.proofs.lemmas.List.{length-set, get_or-set_same, get_or-set_other}
use Rattle.std.proofs.lemmas.Nat.Bits.{bit_at_or, bit_at-lt}
use Rattle.jaeger_model.specs.declared.tag.Tag.{Tag}
use Rattle.jaeger_model.specs.declared.span.Span.{Span}
use Rattle.jaeger_model.specs.declared.batch.Batch.{Batch}
use Rattle.jaeger_model.specs.declared.batch.Process.{Process}
use Rattle.jaeger_model.specs.declared.placed.Placed.{Placed}
use Rattle.jaeger_model.specs.Tags.{tag_text}
use Rattle.jaeger_model.specs.Texts.{same_text}
use Rattle.trace_model.specs.Searching.{tag_matches, has_tag, tags_of}
use Rattle.trace_model.proofs.Lists.{each_append, each_front, each_behind}
use Rattle.arrival_journal.specs.TagBits.{tag_place, bit_of_tag, no_bits, with_bit, with_tag, fields_of, own_tags, bits_of}
use Rattle.journal_traces.specs.SkippedEntries.{bit_of_words, is_marked}
use Rattle.find_traces.proofs.RequestedPairs.{bit_own}

-- the tag's bit is among these
abbrev pub IsSet : List ℕ → Tag → Type 0
IsSet bits t = bit_of_words bits (bit_of_tag t) ≡ 1

-- ---- a bit is set
-- the word of the bit
pub word_put : (b : List ℕ) (p k : ℕ) → p / 64 < length b → k ≡ p / 64 → get_or (with_bit b p) k 0 ≡ bit_or (get_or b k 0) (2 ^ (p % 64))
word_put b p k below same =
    ap (λ j. get_or (with_bit b p) j 0) same ∙ get_or-set_same b (p / 64) (bit_or (get_or b (p / 64) 0) (2 ^ (p % 64))) 0 below
    ∙ ap (λ j. bit_or (get_or b j 0) (2 ^ (p % 64))) (sym same)

-- another word
pub word_still : (b : List ℕ) (p k : ℕ) → (k ≡ p / 64 → ⊥) → get_or (with_bit b p) k 0 ≡ get_or b k 0
word_still b p k apart = get_or-set_other b (p / 64) k (bit_or (get_or b (p / 64) 0) (2 ^ (p % 64))) 0 apart

pub as_many : (b : List ℕ) (p : ℕ) → length b ≡ 8 → length (with_bit b p) ≡ 8
as_many b p eight = length-set b (p / 64) (bit_or (get_or b (p / 64) 0) (2 ^ (p % 64))) ∙ eight

pub below_eight : (b : List ℕ) (p : ℕ) → length b ≡ 8 → p < 512 → p / 64 < length b
below_eight b p eight small = omega arith

-- ---- each tag's own bit is set
set_more : (b : List ℕ) (p k : ℕ) → p / 64 < length b → bit_of_words b k ≡ 1 → bit_of_words (with_bit b p) k ≡ 1
set_more b p k below e = ⊎_elim here (λ apart. ap (λ w. bit_at w (k % 64)) (word_still b p (k / 64) apart) ∙ e) (cases_eq (k / 64) (p / 64))
  where
    here : k / 64 ≡ p / 64 → bit_of_words (with_bit b p) k ≡ 1
    here same =
        let word = get_or b (k / 64) 0 in
        let more : bit_at (bit_or word (2 ^ (p % 64))) (k % 64) ≡ 1 = bit_at_or word (2 ^ (p % 64)) (k % 64)
        ∙ omega (arith, e, bit_at-lt (2 ^ (p % 64)) (k % 64)) in
        ap (λ w. bit_at w (k % 64)) (word_put b p (k / 64) below same) ∙ more

set_own : (b : List ℕ) (p : ℕ) → p / 64 < length b → bit_of_words (with_bit b p) p ≡ 1
set_own b p below = ap (λ w. bit_at w (p % 64)) (word_put b p (p / 64) below refl) ∙ bit_own (get_or b (p / 64) 0) (p % 64)

set_still : (b : List ℕ) (ts : List Tag) (k : ℕ) → length b ≡ 8 → bit_of_words b k ≡ 1 → bit_of_words (fold with_tag b ts) k ≡ 1
set_still b [] k eight e = e
set_still b (t ∷ ts) k eight e =
    let p = bit_of_tag t in
    let below = below_eight b p eight (omega arith) in
    set_still (with_tag b t) ts k (as_many b p eight) (set_more b p k below e)

each_set : (b : List ℕ) (ts : List Tag) → length b ≡ 8 → AllByRecursion (IsSet (fold with_tag b ts)) ts
each_set b [] eight = tt
each_set b (t ∷ ts) eight =
    let p = bit_of_tag t in
    let below = below_eight b p eight (omega arith) in
    let next = as_many b p eight in
    (set_still (with_tag b t) ts p next (set_own b p below), each_set (with_tag b t) ts next)

-- ---- those of each span, of its process and of its logs
-- the bit of each tag that the span of this process shows is set
abbrev pub AreSet : List ℕ → Process → Span → Type 0
AreSet bits o s = AllByRecursion (IsSet bits) (tags_of (record { process = o; span = s }))

each_span : (bits : List ℕ) (o : Process) (ss : List Span) → AllByRecursion (IsSet bits) o.tags → AllByRecursion (IsSet bits) (flat_map own_tags ss)
    → AllByRecursion (AreSet bits o) ss
each_span bits o [] a b = tt
each_span bits o (s ∷ ss) a b =
    let own = each_front (IsSet bits) (own_tags s) (flat_map own_tags ss) b in
    let first = each_append (IsSet bits) s.tags o.tags (each_front (IsSet bits) s.tags (fields_of s.logs) own) a in (
      each_append (IsSet bits) (s.tags ++ o.tags) (fields_of s.logs) first (each_behind (IsSet bits) s.tags (fields_of s.logs) own),
      each_span bits o ss a (each_behind (IsSet bits) (own_tags s) (flat_map own_tags ss) b),
    )

pub all_set : (b : Batch) → AllByRecursion (AreSet (bits_of b) b.process) b.spans
all_set b =
    let each = each_set no_bits (b.process.tags ++ flat_map own_tags b.spans) refl in
    each_span (bits_of b) b.process b.spans (each_front (IsSet (bits_of b)) b.process.tags (flat_map own_tags b.spans) each)
    (each_behind (IsSet (bits_of b)) b.process.tags (flat_map own_tags b.spans) each)

-- ---- what matches is marked
matching_place : (asked : List ℕ × List ℕ) (t : Tag) → tag_matches asked t ≡ true → tag_place t.key (tag_text t.value) ≡ tag_place asked.0 asked.1
matching_place asked t e =
    let ab = and_parts (same_text asked.0 t.key) (same_text asked.1 (tag_text t.value)) e in
    let key = texts_are asked.0 t.key (sym ab.0) in
    let text = texts_are asked.1 (tag_text t.value) (sym ab.1) in
    λ i. tag_place (sym key i) (sym text i)

marked : (bits : List ℕ) (asked : List ℕ × List ℕ) (t : Tag) → IsSet bits t → tag_matches asked t ≡ true → is_marked bits asked ≡ true
marked bits asked t set e = eq-eqb (bit_of_words bits (tag_place asked.0 asked.1)) 1 (ap (bit_of_words bits) (sym (matching_place asked t e)) ∙ set)

one_marked : (bits : List ℕ) (asked : List ℕ × List ℕ) (ts : List Tag) → AllByRecursion (IsSet bits) ts → list_any (tag_matches asked) ts ≡ true
    → is_marked bits asked ≡ true
one_marked bits asked [] set e = absurd (false≢true e)
one_marked bits asked (t ∷ ts) set e = by (tag_matches asked t) refl e (one_marked bits asked ts set.1)
  where
    by : (b : Bool) → tag_matches asked t ≡ b → (b || list_any (tag_matches asked) ts) ≡ true
        → (list_any (tag_matches asked) ts ≡ true → is_marked bits asked ≡ true) → is_marked bits asked ≡ true
    by true matches f rest = marked bits asked t set.0 matches
    by false other f rest = rest f

pub all_marked : (bits : List ℕ) (p : Placed) (asked : List (List ℕ × List ℕ)) → AllByRecursion (IsSet bits) (tags_of p) → list_all (has_tag p) asked ≡ true
    → list_all (is_marked bits) asked ≡ true
all_marked bits p [] set e = refl
all_marked bits p (a ∷ more) set e =
    let ab = and_parts (has_tag p a) (list_all (has_tag p) more) e in
    let first = one_marked bits a (tags_of p) set ab.0 in
    let rest = all_marked bits p more set ab.1 in
    λ i. first i && rest i
