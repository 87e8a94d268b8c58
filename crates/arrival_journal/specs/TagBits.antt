-- A bitmap of the tags that an entry may have.
use Rattle.std.specs.Prelude.{ℕ, ◌+◌, ◌*◌, ◌/◌, ◌%◌, ◌-◌, ◌^◌, ◌==◌, Bool, true, ◌||◌, ◌&&◌, List, [], ◌∷◌, ◌++◌, length, get_or, flat_map, nat_le}
use Rattle.std.specs.Prelude.{slice_set, if◌then◌else◌}
use Rattle.std.specs.Int.Bits.{bit_or}
use Rattle.std.specs.List.{fold}
use Rattle.std.specs.Option.{option_map_or}
use Rattle.jaeger_model.specs.declared.tag.Tag.{Tag}
use Rattle.jaeger_model.specs.declared.span.Log.{Log}
use Rattle.jaeger_model.specs.declared.span.Span.{Span}
use Rattle.jaeger_model.specs.declared.batch.Batch.{Batch}
use Rattle.jaeger_model.specs.Tags.{tag_text}
use Rattle.trace_model.specs.declared.entry.Work.{Work}
use Rattle.trace_model.specs.EntryWork.{batch_brought}

-- a number for a text, by its length and by its first, middle and last byte
abbrev pub text_hash : List ℕ → ℕ
text_hash w = length w % 128 + 3 * get_or w 0 0 + 5 * get_or w (length w / 2) 0 + 7 * get_or w (length w - 1) 0

-- 0 to 9, a to f, t and -
abbrev pub may_begin_non_string : ℕ → Bool
may_begin_non_string c = (nat_le 48 c && nat_le c 57) || (nat_le 97 c && nat_le c 102) || (c == 116) || (c == 45)

-- the text may be that of a value that isn't a string: a number, a flag, or bytes
abbrev pub may_be_non_string : List ℕ → Bool
may_be_non_string [] = true
may_be_non_string (c ∷ w) = may_begin_non_string c

-- 0 for each text that may be that of a value that isn't a string
abbrev pub text_part : List ℕ → ℕ
text_part w = if may_be_non_string w then 0 else 41 + 11 * text_hash w

-- which of 512 bits represents the tags with this key and this text
abbrev pub tag_place : List ℕ → List ℕ → ℕ
tag_place key text = (text_hash key + text_part text) % 512

-- ---- bits in words of 64, the lowest first
-- 512 bits, none of them set
abbrev pub no_bits : List ℕ
no_bits = 0 ∷ 0 ∷ 0 ∷ 0 ∷ 0 ∷ 0 ∷ 0 ∷ 0 ∷ []

-- with the bit at a place
abbrev pub with_bit : List ℕ → ℕ → List ℕ
with_bit words place = slice_set words (place / 64) (bit_or (get_or words (place / 64) 0) (2 ^ (place % 64)))

abbrev pub bit_of_tag : Tag → ℕ
bit_of_tag t = tag_place t.key (tag_text t.value)

abbrev pub with_tag : List ℕ → Tag → List ℕ
with_tag words t = with_bit words (bit_of_tag t)

abbrev pub fields_of : List Log → List Tag
fields_of logs = flat_map (λ (l : Log). l.fields) logs

-- the tags of a span and of its logs
abbrev pub own_tags : Span → List Tag
own_tags s = s.tags ++ fields_of s.logs

-- the bits of the tags of the process, of its spans and of their logs
abbrev pub bits_of : Batch → List ℕ
bits_of b = fold with_tag no_bits (b.process.tags ++ flat_map own_tags b.spans)

-- a limit has no tags
abbrev pub bits_brought : Work → List ℕ
bits_brought w = option_map_or bits_of (batch_brought w) no_bits
