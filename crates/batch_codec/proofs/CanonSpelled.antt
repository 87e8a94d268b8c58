-- The one spelling of a batch spells it.
use Rattle.std.proofs.Common.{◌≡◌, ℕ, ℤ, pos, ◌<◌, ◌^◌, List, [], ◌∷◌, ◌++◌, Option, Some, None, refl, sym, ap, subst, w16, w64, SFits, Ok}
use Rattle.std.specs.Int.{cast_signed}
use Rattle.std.specs.List.{AllByRecursion}
use Rattle.jaeger_model.specs.declared.tag.Tag.{Tag}
use Rattle.jaeger_model.specs.declared.tag.Value.{Value}
use Rattle.jaeger_model.specs.declared.tag.Value.TheVariants as values
use Rattle.jaeger_model.specs.declared.span.Log.{Log}
use Rattle.jaeger_model.specs.declared.span.RefKind.{RefKind}
use Rattle.jaeger_model.specs.declared.span.RefKind.TheVariants.{ChildOf, FollowsFrom}
use Rattle.jaeger_model.specs.declared.span.SpanRef.{SpanRef}
use Rattle.jaeger_model.specs.declared.span.Span.{Span}
use Rattle.jaeger_model.specs.declared.batch.Process.{Process}
use Rattle.jaeger_model.specs.declared.batch.Batch.{Batch}
use Rattle.thrift_binary.specs.Spelling.{Field}
use Rattle.thrift_binary.specs.Writing.{i32_text, i64_text, list_text, HasHead}
use Rattle.thrift_binary.proofs.Written.{bool_written, i32_written, i64_written, string_written, double_written, fields_written, list_written}
use Rattle.batch_codec.specs.declared.tag.TagSlots.{TagSlots}
use Rattle.batch_codec.specs.declared.tag.TagType.{TagType}
use Rattle.batch_codec.specs.declared.tag.TagType.TheVariants as types
use Rattle.batch_codec.specs.declared.span.SpanSlots.{SpanSlots}
use Rattle.batch_codec.specs.declared.batch.BatchSlots.{BatchSlots}
use Rattle.batch_codec.specs.EmptySlots.{no_tag, no_log, no_reference, no_process, no_span, no_batch, value_named}
use Rattle.batch_codec.specs.Batches.{IsId, type_number, kind_number, IsTagType, IsRefKind, Gathers, IsStructList, TagField, IsTag, LogField, IsLog}
use Rattle.batch_codec.specs.Batches.{ReferenceField, IsReference, ProcessField, IsProcess, SpanField, IsSpan, BatchField, IsBatch, whole_log, whole_reference}
use Rattle.batch_codec.specs.Batches.{whole_process, whole_span, whole_batch}
use Rattle.batch_codec.specs.CanonicalTexts.{list_field, list_if_any, number_if_any, value_type, value_field, tag_fields, canon_tag, log_fields, canon_log}
use Rattle.batch_codec.specs.CanonicalTexts.{reference_fields, canon_reference, process_fields, canon_process, span_front, span_middle, span_fields, canon_span}
use Rattle.batch_codec.specs.CanonicalTexts.{batch_fields, canon}
use Rattle.batch_codec.specs.EncodableBatches.{AreProper, IsProperValue, IsProperTag, IsProperLog, IsProperReference, IsProperProcess}
use Rattle.batch_codec.specs.EncodableBatches.{IsProperFront, IsProperMiddle, IsProperSpan, IsProperNumber, IsProper}
use Rattle.std.proofs.Math.Facts.{sfits_lit, sfits_to_z}
use Rattle.std.proofs.lemmas.Int.{of_z-to_z}
use Rattle.std.proofs.Common.{Fits}
use Rattle.batch_codec.specs.BatchReading.{decoded}
use Rattle.batch_codec.proofs.BatchSpelled.{batch_again}

-- ---- values

-- an id's bits as a signed number, and back
id_written : (n : ℕ) → n < 2 ^ 64 → IsId (i64_text (cast_signed w64 n)) n
id_written n lt =
    let fits : Fits w64 n = record { fits = lt } in
    (cast_signed w64 n, i64_written (cast_signed w64 n) (sfits_to_z fits), sym (of_z-to_z w64 n lt))

type_written : (k : TagType) → IsTagType (i32_text (type_number k)) k
type_written types.Text = i32_written (pos 0) (sfits_lit tt)
type_written types.Double = i32_written (pos 1) (sfits_lit tt)
type_written types.Bool = i32_written (pos 2) (sfits_lit tt)
type_written types.Long = i32_written (pos 3) (sfits_lit tt)
type_written types.Binary = i32_written (pos 4) (sfits_lit tt)

kind_written : (k : RefKind) → IsRefKind (i32_text (kind_number k)) k
kind_written ChildOf = i32_written (pos 0) (sfits_lit tt)
kind_written FollowsFrom = i32_written (pos 1) (sfits_lit tt)

-- ---- sequences of fields

gathers-append : {S : Type 0} (Does : S → Field → S → Type 0) (s t u : S) (fs gs : List Field) → Gathers Does s fs t → Gathers Does t gs u
    → Gathers Does s (fs ++ gs) u
gathers-append Does s t u [] gs e g = subst (λ (x : _). Gathers Does x gs u) e g
gathers-append Does s t u (f ∷ fs) gs (v, d, more) g = (v, d, gathers-append Does v t u fs gs more g)

-- a list that is left out if it is empty
gathers_if_any : {A S : Type 0} (Does : S → Field → S → Type 0) (i : ℤ) (one : A → List ℕ) (set : List A → S) (xs : List A)
    → Does (set []) (list_field i one xs) (set xs) → Gathers Does (set []) (list_if_any i one xs) (set xs)
gathers_if_any Does i one set [] d = refl
gathers_if_any Does i one set (x ∷ xs) d = (set (x ∷ xs), d, refl)

all_map : {A : Type 0} (P Q : A → Type 0) → ((x : A) → P x → Q x) → (xs : List A) → AllByRecursion P xs → AllByRecursion Q xs
all_map P Q f [] a = tt
all_map P Q f (x ∷ xs) a = (f x a.0, all_map P Q f xs a.1)

-- a list of structs that each spell their value
list_spelled : {A : Type 0} (Is : A → Type 0) (Spells : List ℕ → A → Type 0) (one : A → List ℕ) → ((x : A) → Is x → Spells (one x) x) → (xs : List A)
    → AreProper Is xs → IsStructList Spells (list_text 12 one xs) xs
list_spelled Is Spells one each xs p = list_written 12 Spells one xs (all_map Is (λ x. Spells (one x) x) each xs p.1) p.0

-- a head can spell the type and the id of each of them
abbrev AllHaveHeads : List Field → Type 0
AllHaveHeads fs = AllByRecursion HasHead fs

heads-append : (fs gs : List Field) → AllHaveHeads fs → AllHaveHeads gs → AllHaveHeads (fs ++ gs)
heads-append [] gs a b = b
heads-append (f ∷ fs) gs a b = (a.0, heads-append fs gs a.1 b)

heads_if_any : {A : Type 0} (i : ℤ) (one : A → List ℕ) (xs : List A) → SFits w16 i → AllHaveHeads (list_if_any i one xs)
heads_if_any i one [] s = tt
heads_if_any i one (x ∷ xs) s = ((s, refl), tt)

heads_number : (i : ℤ) (z : Option ℤ) → SFits w16 i → AllHaveHeads (number_if_any i z)
heads_number i None s = tt
heads_number i (Some z) s = ((s, refl), tt)

-- ---- Tag

value_head : (v : Value) → HasHead (value_field v)
value_head (values.Text x) = (sfits_lit tt, refl)
value_head (values.Double x) = (sfits_lit tt, refl)
value_head (values.Bool x) = (sfits_lit tt, refl)
value_head (values.Long x) = (sfits_lit tt, refl)
value_head (values.Bytes x) = (sfits_lit tt, refl)

tag_value : (k : List ℕ) (v : Value) → IsProperValue v → (t : TagSlots)
    × TagField (record no_tag { key = Some k; kind = Some (value_type v) }) (value_field v) t × (t.key ≡ Some k) × (t.kind ≡ Some (value_type v))
    × (v ≡ value_named (value_type v) t)
unfolding TagField
tag_value k (values.Text x) p = (record no_tag { key = Some k; kind = Some types.Text; text = x }, (x, (string_written x p.0, p.1), refl), refl, refl, refl)
tag_value k (values.Double x) p = (record no_tag { key = Some k; kind = Some types.Double; double = x }, (x, double_written x p, refl), refl, refl, refl)
tag_value k (values.Bool x) p = (record no_tag { key = Some k; kind = Some types.Bool; boolean = x }, (x, bool_written x, refl), refl, refl, refl)
tag_value k (values.Long x) p = (record no_tag { key = Some k; kind = Some types.Long; long = x }, (x, i64_written x p, refl), refl, refl, refl)
tag_value k (values.Bytes x) p = (record no_tag { key = Some k; kind = Some types.Binary; binary = x }, (x, string_written x p, refl), refl, refl, refl)

pub tag_spelled : (t : Tag) → IsProperTag t → IsTag (canon_tag t) t
unfolding canon_tag IsTag TagField
tag_spelled t p =
    let v = tag_value t.key t.value p.value in
    record {
      fields = tag_fields t;
      spelled = fields_written (tag_fields t) ((sfits_lit tt, refl), ((sfits_lit tt, refl), (value_head t.value, tt)));
      gathered = v.0;
      gathers = (
        record no_tag { key = Some t.key },
        (t.key, (string_written t.key p.key.0, p.key.1), refl),
        (record no_tag { key = Some t.key; kind = Some (value_type t.value) }, (value_type t.value, type_written (value_type t.value), refl), (v.0, v.1, refl)),
      );
      makes = record { key = v.2; kind = value_type t.value; named = v.3; value = v.4 };
    }

-- ---- Log

pub log_spelled : (l : Log) → IsProperLog l → IsLog (canon_log l) l
unfolding canon_log IsLog LogField
log_spelled l p =
    record {
      fields = log_fields l;
      spelled = fields_written (log_fields l) ((sfits_lit tt, refl), ((sfits_lit tt, refl), tt));
      gathered = whole_log l;
      gathers = (
        record no_log { at = Some l.at },
        (l.at, i64_written l.at p.at, refl),
        (whole_log l, (l.fields, list_spelled IsProperTag IsTag canon_tag tag_spelled l.fields p.fields, refl), refl),
      );
      makes = refl;
    }

-- ---- SpanRef

pub reference_spelled : (r : SpanRef) → IsProperReference r → IsReference (canon_reference r) r
unfolding canon_reference IsReference ReferenceField
reference_spelled r p =
    record {
      fields = reference_fields r;
      spelled = fields_written (reference_fields r) ((sfits_lit tt, refl), ((sfits_lit tt, refl), ((sfits_lit tt, refl), ((sfits_lit tt, refl), tt))));
      gathered = whole_reference r;
      gathers = (
        record no_reference { kind = Some r.kind },
        (r.kind, kind_written r.kind, refl),
        (
          record no_reference { kind = Some r.kind; trace_low = Some r.trace.low },
          (r.trace.low, id_written r.trace.low p.low, refl),
          (
            record no_reference { kind = Some r.kind; trace_low = Some r.trace.low; trace_high = Some r.trace.high },
            (r.trace.high, id_written r.trace.high p.high, refl),
            (whole_reference r, (r.id.0, id_written r.id.0 p.id, refl), refl),
          ),
        ),
      );
      makes = refl;
    }

-- ---- Process

pub process_spelled : (p : Process) → IsProperProcess p → IsProcess (canon_process p) p
unfolding canon_process IsProcess ProcessField
process_spelled p q =
    record {
      fields = process_fields p;
      spelled = fields_written (process_fields p) ((sfits_lit tt, refl), heads_if_any (pos 2) canon_tag p.tags (sfits_lit tt));
      gathered = whole_process p;
      gathers = (
        record no_process { service = Some p.service },
        (p.service, (string_written p.service q.service.0, q.service.1), refl),
        gathers_if_any ProcessField (pos 2) canon_tag
            (λ xs. record { service = Some p.service; tags = xs }) p.tags (p.tags, list_spelled IsProperTag IsTag canon_tag tag_spelled p.tags q.tags, refl),
      );
      makes = refl;
    }

-- ---- Span

-- the state of a span after each of its parts
front_slots : Span → List SpanRef → SpanSlots
front_slots s xs =
    record no_span {
      trace_low = Some s.trace.low;
      trace_high = Some s.trace.high;
      id = Some s.id.0;
      parent = Some s.parent.0;
      operation = Some s.operation;
      references = xs;
    }

middle_slots : Span → List Tag → SpanSlots
middle_slots s xs =
    record no_span {
      trace_low = Some s.trace.low;
      trace_high = Some s.trace.high;
      id = Some s.id.0;
      parent = Some s.parent.0;
      operation = Some s.operation;
      references = s.references;
      flags = Some s.flags;
      start = Some s.start;
      duration = Some s.duration;
      tags = xs;
    }

last_slots : Span → List Log → SpanSlots
last_slots s xs = record (whole_span s) { logs = xs }

front_gathers : (s : Span) → IsProperFront s → Gathers SpanField no_span (span_front s) (front_slots s [])
unfolding SpanField front_slots
front_gathers s p = (
  record no_span { trace_low = Some s.trace.low },
  (s.trace.low, id_written s.trace.low p.low, refl),
  (
    record no_span { trace_low = Some s.trace.low; trace_high = Some s.trace.high },
    (s.trace.high, id_written s.trace.high p.high, refl),
    (
      record no_span { trace_low = Some s.trace.low; trace_high = Some s.trace.high; id = Some s.id.0 },
      (s.id.0, id_written s.id.0 p.id, refl),
      (
        record no_span { trace_low = Some s.trace.low; trace_high = Some s.trace.high; id = Some s.id.0; parent = Some s.parent.0 },
        (s.parent.0, id_written s.parent.0 p.parent, refl),
        (front_slots s [], (s.operation, (string_written s.operation p.operation.0, p.operation.1), refl), refl),
      ),
    ),
  ),
)

middle_gathers : (s : Span) → IsProperMiddle s → Gathers SpanField (front_slots s s.references) (span_middle s) (middle_slots s [])
unfolding SpanField front_slots middle_slots
middle_gathers s p = (
  record (front_slots s s.references) { flags = Some s.flags },
  (s.flags, i32_written s.flags p.flags, refl),
  (
    record (front_slots s s.references) { flags = Some s.flags; start = Some s.start },
    (s.start, i64_written s.start p.start, refl),
    (middle_slots s [], (s.duration, i64_written s.duration p.duration, refl), refl),
  ),
)

references_gather : (s : Span) → IsProperSpan s
    → Gathers SpanField (front_slots s []) (list_if_any (pos 6) canon_reference s.references) (front_slots s s.references)
unfolding SpanField front_slots
references_gather s p =
    gathers_if_any SpanField (pos 6) canon_reference (front_slots s) s.references
    (s.references, list_spelled IsProperReference IsReference canon_reference reference_spelled s.references p.references, refl)

tags_gather : (s : Span) → IsProperSpan s → Gathers SpanField (middle_slots s []) (list_if_any (pos 10) canon_tag s.tags) (middle_slots s s.tags)
unfolding SpanField middle_slots
tags_gather s p =
    gathers_if_any SpanField (pos 10) canon_tag (middle_slots s) s.tags (s.tags, list_spelled IsProperTag IsTag canon_tag tag_spelled s.tags p.tags, refl)

logs_gather : (s : Span) → IsProperSpan s → Gathers SpanField (last_slots s []) (list_if_any (pos 11) canon_log s.logs) (last_slots s s.logs)
unfolding SpanField last_slots
logs_gather s p =
    gathers_if_any SpanField (pos 11) canon_log (last_slots s) s.logs (s.logs, list_spelled IsProperLog IsLog canon_log log_spelled s.logs p.logs, refl)

span_gathers : (s : Span) → IsProperSpan s → Gathers SpanField no_span (span_fields s) (whole_span s)
unfolding middle_slots last_slots
span_gathers s p =
    let r = list_if_any (pos 6) canon_reference s.references in
    let t = list_if_any (pos 10) canon_tag s.tags in
    let l = list_if_any (pos 11) canon_log s.logs in
    let four = gathers-append SpanField (middle_slots s []) (middle_slots s s.tags) (whole_span s) t l (tags_gather s p) (logs_gather s p) in
    let three = gathers-append SpanField (front_slots s s.references) (middle_slots s []) (whole_span s) (span_middle s) (t ++ l) (middle_gathers s p.middle)
    four in
    let two = gathers-append SpanField (front_slots s []) (front_slots s s.references) (whole_span s) r (span_middle s ++ (t ++ l)) (references_gather s p)
    three in
    gathers-append SpanField no_span (front_slots s []) (whole_span s) (span_front s) (r ++ (span_middle s ++ (t ++ l))) (front_gathers s p.front) two

span_heads : (s : Span) → AllHaveHeads (span_fields s)
span_heads s =
    let r = list_if_any (pos 6) canon_reference s.references in
    let t = list_if_any (pos 10) canon_tag s.tags in
    let l = list_if_any (pos 11) canon_log s.logs in
    let front : AllHaveHeads (span_front s) =
    ((sfits_lit tt, refl), ((sfits_lit tt, refl), ((sfits_lit tt, refl), ((sfits_lit tt, refl), ((sfits_lit tt, refl), tt))))) in
    let middle : AllHaveHeads (span_middle s) = ((sfits_lit tt, refl), ((sfits_lit tt, refl), ((sfits_lit tt, refl), tt))) in
    heads-append (span_front s) (r ++ (span_middle s ++ (t ++ l))) front
    (heads-append r (span_middle s ++ (t ++ l)) (heads_if_any (pos 6) canon_reference s.references (sfits_lit tt))
    (heads-append (span_middle s) (t ++ l) middle
    (heads-append t l (heads_if_any (pos 10) canon_tag s.tags (sfits_lit tt)) (heads_if_any (pos 11) canon_log s.logs (sfits_lit tt)))))

pub span_spelled : (s : Span) → IsProperSpan s → IsSpan (canon_span s) s
unfolding canon_span IsSpan
span_spelled s p =
    record {
      fields = span_fields s;
      spelled = fields_written (span_fields s) (span_heads s);
      gathered = whole_span s;
      gathers = span_gathers s p;
      makes = refl;
    }

-- ---- Batch

number_gathers : (s : BatchSlots) (z : Option ℤ) → s.seq_no ≡ None → IsProperNumber z → Gathers BatchField s (number_if_any (pos 3) z) (record s { seq_no = z })
unfolding BatchField
number_gathers s None e p = ap (λ (o : Option ℤ). record s { seq_no = o }) (sym e)
number_gathers s (Some z) e p = (record s { seq_no = Some z }, (z, i64_written z p, refl), refl)

pub batch_spelled : (b : Batch) → IsProper b → IsBatch (canon b) b
unfolding canon IsBatch BatchField
batch_spelled b p =
    record {
      fields = batch_fields b;
      spelled = fields_written (batch_fields b) ((sfits_lit tt, refl), ((sfits_lit tt, refl), heads_number (pos 3) b.seq_no (sfits_lit tt)));
      gathered = whole_batch b;
      gathers = (
        record no_batch { process = Some b.process },
        (b.process, process_spelled b.process p.process, refl),
        (
          record no_batch { process = Some b.process; spans = Some b.spans },
          (b.spans, list_spelled IsProperSpan IsSpan canon_span span_spelled b.spans p.spans, refl),
          number_gathers (record no_batch { process = Some b.process; spans = Some b.spans }) b.seq_no refl p.seq_no,
        ),
      );
      makes = refl;
    }

pub canon_decodes : (b : Batch) → IsProper b → decoded (canon b) ≡ Ok b
canon_decodes b p = batch_again (canon b) b (batch_spelled b p)
