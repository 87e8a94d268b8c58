-- The pairs of a key and a text that a search requests, and which of them tags have.
use Rattle.std.specs.Prelude.{ℕ, ◌%◌, ◌^◌, ◌==◌, nat_le, Bool, true, not, ◌&&◌, ◌||◌, List, [], ◌∷◌, length, map, Option, Some, None, if◌then◌else◌}
use Rattle.std.specs.Borrow.{Bor}
use Rattle.std.specs.Int.Bits.{bit_or}
use Rattle.std.specs.List.{fold, list_any}
use Rattle.std.specs.Set.{distinct_count}
use Rattle.std.specs.Ordering.{eq_by_cmp, nat_cmp}
use Rattle.jaeger_model.specs.declared.tag.Tag.{Tag}
use Rattle.jaeger_model.specs.Tags.{tag_text}
use Rattle.jaeger_model.specs.Texts.{text_cmp}
use Rattle.trace_model.specs.declared.query.Find.{Find}
use Rattle.trace_model.specs.ServiceLinks.{call_cmp as pair_cmp}

-- the pair of a tag
abbrev pub pair_of : Tag → List ℕ × List ℕ
pair_of t = (t.key, tag_text t.value)

-- the same key and the same text
abbrev pub same_pair : List ℕ × List ℕ → List ℕ × List ℕ → Bool
same_pair a b = eq_by_cmp pair_cmp a b

-- the search requests a pair with the key
abbrev pub requests_key : Find → List ℕ → Bool
requests_key q k = list_any (λ (a : List ℕ × List ℕ). eq_by_cmp text_cmp k a.0) q.tags

-- the search requests a pair with a text of n bytes
abbrev pub requests_length : Find → ℕ → Bool
requests_length q n = list_any (λ (a : List ℕ × List ℕ). eq_by_cmp nat_cmp n (length a.1)) q.tags

-- a digit, or a minus sign
abbrev pub begins_number : ℕ → Bool
begins_number c = (nat_le 48 c && nat_le c 57) || (c == 45)

-- the text may be that of a number, by its first byte
abbrev pub may_be_number : List ℕ → Bool
may_be_number [] = true
may_be_number (c ∷ w) = begins_number c

-- the search requests a pair with such a text
abbrev pub requests_number : Find → Bool
requests_number q = list_any (λ (a : List ℕ × List ℕ). may_be_number a.1) q.tags

-- bits for the lengths of keys: the one with the number of each length modulo 64 is set
abbrev pub with_key : ℕ → List ℕ × List ℕ → ℕ
with_key bits a = bit_or bits (2 ^ (length a.0 % 64))

abbrev pub key_bits : List (List ℕ × List ℕ) → ℕ
key_bits requested = fold with_key 0 requested

-- the search requests the pair
abbrev pub requests_pair : Find → List ℕ × List ℕ → Bool
requests_pair q a = list_any (same_pair a) q.tags

-- the number of requested pairs, each counted once
abbrev pub requested_count : Find → ℕ
requested_count q = distinct_count same_pair q.tags

-- the pair, if it is requested
abbrev pub if_requested : Find → List ℕ × List ℕ → Option (List ℕ × List ℕ)
if_requested q a = if requests_pair q a then Some a else None

-- one of the tags has the pair
abbrev pub has_pair : List Tag → List ℕ × List ℕ → Bool
has_pair ts a = list_any (λ (t : Tag). same_pair a (pair_of t)) ts

-- the pair is among these
abbrev pub is_in : List (List ℕ × List ℕ) → List ℕ × List ℕ → Bool
is_in ps a = list_any (same_pair a) ps

-- the pairs that are referred to
abbrev pub pairs_lent : List (Bor (List ℕ × List ℕ)) → List (List ℕ × List ℕ)
pairs_lent lent = map (λ r. r.now) lent

-- the pair is requested and is not among those
abbrev pub wants : Find → List (List ℕ × List ℕ) → List ℕ × List ℕ → Bool
wants q but a = requests_pair q a && not (is_in but a)

-- a search, the requested pairs that the tags of a process have, and the number of the others
pub record Judgement : Type 0 where
  pub query : Find
  pub met : List (List ℕ × List ℕ)
  pub missing : ℕ
