-- The one spelling in which a batch is written: the fields of each struct in the order of their ids. An
-- optional list is left out if it is empty, and so is an absent number of the batch. A tag always has the
-- one value of its type.
use Rattle.std.specs.Prelude.{◌≡◌, ℕ, ℤ, pos, ◌^◌, List, [], ◌∷◌, ◌++◌, length, Bool, true, false, ◌&&◌, Option, Some, None, Result, Ok, Err, nat_lt}
use Rattle.std.specs.List.{list_all}
use Rattle.std.specs.Int.{w64, cast_signed}
use Rattle.jaeger_model.specs.declared.tag.Tag.{Tag}
use Rattle.jaeger_model.specs.declared.tag.Value.{Value}
use Rattle.jaeger_model.specs.declared.tag.Value.TheVariants as values
use Rattle.jaeger_model.specs.declared.span.Log.{Log}
use Rattle.jaeger_model.specs.declared.span.SpanRef.{SpanRef}
use Rattle.jaeger_model.specs.declared.span.Span.{Span}
use Rattle.jaeger_model.specs.declared.batch.Process.{Process}
use Rattle.jaeger_model.specs.declared.batch.Batch.{Batch}
use Rattle.thrift_binary.specs.Spelling.{Field}
use Rattle.thrift_binary.specs.Writing.{bool_text, i32_text, i64_text, string_text, field_text, list_text, fields_text}
use Rattle.thrift_binary.specs.declared.out.WriteError.{WriteError}
use Rattle.thrift_binary.specs.declared.out.WriteError.TheVariants.{BadLength, Memory}
use Rattle.batch_codec.specs.declared.tag.TagType.{TagType}
use Rattle.batch_codec.specs.declared.tag.TagType.TheVariants as types
use Rattle.batch_codec.specs.Changes.{Change}
use Rattle.batch_codec.specs.Batches.{type_number, kind_number}

-- ---- fields

abbrev pub text_field : ℤ → List ℕ → Field
text_field i text = record { code = 11; id = i; text = string_text text }

abbrev pub i32_field : ℤ → ℤ → Field
i32_field i z = record { code = 8; id = i; text = i32_text z }

abbrev pub i64_field : ℤ → ℤ → Field
i64_field i z = record { code = 10; id = i; text = i64_text z }

-- an unsigned id has the same bits as a signed number
abbrev pub id_field : ℤ → ℕ → Field
id_field i n = i64_field i (cast_signed w64 n)

abbrev pub double_field : ℤ → List ℕ → Field
double_field i bytes = record { code = 4; id = i; text = bytes }

-- a list of structs
abbrev pub list_field : {A : Type 0} → ℤ → (A → List ℕ) → List A → Field
list_field i one xs = record { code = 15; id = i; text = list_text 12 one xs }

-- a list of structs, left out if it is empty
abbrev pub list_if_any : {A : Type 0} → ℤ → (A → List ℕ) → List A → List Field
list_if_any i one [] = []
list_if_any i one (x ∷ xs) = list_field i one (x ∷ xs) ∷ []

-- the fields without a stop byte
abbrev pub front_text : List Field → List ℕ
front_text [] = []
front_text (f ∷ fs) = field_text f.code f.id ++ (f.text ++ front_text fs)

-- ---- structs

abbrev pub value_type : Value → TagType
value_type (values.Text t) = types.Text
value_type (values.Double d) = types.Double
value_type (values.Bool b) = types.Bool
value_type (values.Long z) = types.Long
value_type (values.Bytes bs) = types.Binary

abbrev pub value_field : Value → Field
value_field (values.Text t) = text_field (pos 3) t
value_field (values.Double d) = double_field (pos 4) d
value_field (values.Bool b) = record { code = 2; id = pos 5; text = bool_text b }
value_field (values.Long z) = i64_field (pos 6) z
value_field (values.Bytes bs) = text_field (pos 7) bs

abbrev pub tag_fields : Tag → List Field
tag_fields t = text_field (pos 1) t.key ∷ i32_field (pos 2) (type_number (value_type t.value)) ∷ value_field t.value ∷ []

unfoldable pub canon_tag : Tag → List ℕ
canon_tag t = fields_text (tag_fields t)

abbrev pub log_fields : Log → List Field
log_fields l = i64_field (pos 1) l.at ∷ list_field (pos 2) canon_tag l.fields ∷ []

unfoldable pub canon_log : Log → List ℕ
canon_log l = fields_text (log_fields l)

abbrev pub reference_fields : SpanRef → List Field
reference_fields r = i32_field (pos 1) (kind_number r.kind) ∷ id_field (pos 2) r.trace.low ∷ id_field (pos 3) r.trace.high ∷ id_field (pos 4) r.id.0 ∷ []

unfoldable pub canon_reference : SpanRef → List ℕ
canon_reference r = fields_text (reference_fields r)

abbrev pub process_fields : Process → List Field
process_fields p = text_field (pos 1) p.service ∷ list_if_any (pos 2) canon_tag p.tags

unfoldable pub canon_process : Process → List ℕ
canon_process p = fields_text (process_fields p)

-- the ids and the operation; then the references; flags and times; tags and logs
abbrev pub span_front : Span → List Field
span_front s =
    id_field (pos 1) s.trace.low ∷ id_field (pos 2) s.trace.high ∷ id_field (pos 3) s.id.0 ∷ id_field (pos 4) s.parent.0 ∷ text_field (pos 5) s.operation ∷ []

abbrev pub span_middle : Span → List Field
span_middle s = i32_field (pos 7) s.flags ∷ i64_field (pos 8) s.start ∷ i64_field (pos 9) s.duration ∷ []

abbrev pub span_fields : Span → List Field
span_fields s =
    span_front s ++ (list_if_any (pos 6) canon_reference s.references
    ++ (span_middle s ++ (list_if_any (pos 10) canon_tag s.tags ++ list_if_any (pos 11) canon_log s.logs)))

unfoldable pub canon_span : Span → List ℕ
canon_span s = fields_text (span_fields s)

abbrev pub number_if_any : ℤ → Option ℤ → List Field
number_if_any i None = []
number_if_any i (Some z) = i64_field i z ∷ []

abbrev pub batch_fields : Batch → List Field
batch_fields b = record { code = 12; id = pos 1; text = canon_process b.process } ∷ list_field (pos 2) canon_span b.spans ∷ number_if_any (pos 3) b.seq_no

-- the one spelling of a batch
unfoldable pub canon : Batch → List ℕ
canon b = fields_text (batch_fields b)

-- ---- lengths: what four bytes can hold as a signed number

abbrev pub fits_length : ℕ → Bool
fits_length n = nat_lt n (2 ^ 31)

abbrev pub list_fits : {A : Type 0} → (A → Bool) → List A → Bool
list_fits one xs = fits_length (length xs) && list_all one xs

abbrev pub value_fits : Value → Bool
value_fits (values.Text t) = fits_length (length t)
value_fits (values.Double d) = true
value_fits (values.Bool b) = true
value_fits (values.Long z) = true
value_fits (values.Bytes bs) = fits_length (length bs)

unfoldable pub tag_fits : Tag → Bool
tag_fits t = fits_length (length t.key) && value_fits t.value

unfoldable pub log_fits : Log → Bool
log_fits l = list_fits tag_fits l.fields

unfoldable pub reference_fits : SpanRef → Bool
reference_fits r = true

unfoldable pub process_fits : Process → Bool
process_fits p = fits_length (length p.service) && list_fits tag_fits p.tags

unfoldable pub span_fits : Span → Bool
span_fits s = fits_length (length s.operation) && list_fits reference_fits s.references && list_fits tag_fits s.tags && list_fits log_fits s.logs

-- no length and no size of the batch is above 2,147,483,647
unfoldable pub batch_fits : Batch → Bool
batch_fits b = process_fits b.process && list_fits span_fits b.spans

-- ---- what writing does

-- The text is appended if every length in it fits; a length that doesn't is the only error unless memory runs out.
abbrev pub Encodes : List ℕ → Bool → Change (List ℕ) → Result (Unit {0}) WriteError → Type 0
Encodes text fits out (Ok x) = (fits ≡ true) × (out.after ≡ out.before ++ text)
Encodes text fits out (Err BadLength) = fits ≡ false
Encodes text fits out (Err Memory) = Unit {0}
