-- Which bytes spell a batch (`jaeger.thrift` in the Thrift binary protocol), as a relation on complete
-- texts, not as a reading. A struct is fields and a stop byte, and each field changes the fields so far in
-- one way: a known field of its declared type spells its value strictly and replaces the value of an
-- earlier field of its id; every other field is a value of its type, and changes nothing.
--
-- The types' codes here: 2 bool, 4 double, 8 i32 and enum, 10 i64, 11 string and binary, 12 struct, 15 list.
use Rattle.std.specs.Prelude.{◌≡◌, ℕ, ℤ, pos, List, [], ◌∷◌, Some, Result, Ok, Err, ◌⊎◌, MatchBool}
use Rattle.std.specs.Str.{IsUtf8}
use Rattle.std.specs.Int.{w64, cast_unsigned}
use Rattle.jaeger_model.specs.declared.tag.Tag.{Tag}
use Rattle.jaeger_model.specs.declared.span.Log.{Log}
use Rattle.jaeger_model.specs.declared.span.RefKind.{RefKind}
use Rattle.jaeger_model.specs.declared.span.RefKind.TheVariants.{ChildOf, FollowsFrom}
use Rattle.jaeger_model.specs.declared.span.SpanRef.{SpanRef}
use Rattle.jaeger_model.specs.declared.span.Span.{Span}
use Rattle.jaeger_model.specs.declared.batch.Process.{Process}
use Rattle.jaeger_model.specs.declared.batch.Batch.{Batch}
use Rattle.thrift_binary.specs.Spelling.{Field, IsFields, IsString, IsBool, IsDouble, IsI32, IsI64, IsTypedList, IsValue, has}
use Rattle.batch_codec.specs.declared.fault.DecodeError.{DecodeError}
use Rattle.batch_codec.specs.declared.fault.DecodeError.TheVariants.{Memory}
use Rattle.batch_codec.specs.declared.tag.TagType.{TagType}
use Rattle.batch_codec.specs.declared.tag.TagType.TheVariants as types
use Rattle.batch_codec.specs.declared.tag.TagSlots.{TagSlots}
use Rattle.batch_codec.specs.declared.log.LogSlots.{LogSlots}
use Rattle.batch_codec.specs.declared.reference.ReferenceSlots.{ReferenceSlots}
use Rattle.batch_codec.specs.declared.process.ProcessSlots.{ProcessSlots}
use Rattle.batch_codec.specs.declared.span.SpanSlots.{SpanSlots}
use Rattle.batch_codec.specs.declared.batch.BatchSlots.{BatchSlots}
use Rattle.batch_codec.specs.StructRules.{StructRule}
use Rattle.batch_codec.specs.EmptySlots.{no_tag, no_log, no_reference, no_process, no_span, no_batch, value_named}

-- ---- values

-- a string: a length and that many bytes of UTF-8
abbrev pub IsText : List ℕ → List ℕ → Type 0
IsText w text = IsString w text × IsUtf8 text

-- 64 bits of an id, a signed number on the wire, as an unsigned number
abbrev pub IsId : List ℕ → ℕ → Type 0
IsId w n = (z : ℤ) × IsI64 w z × (n ≡ cast_unsigned w64 z)

-- the numbers of TagType
abbrev pub type_number : TagType → ℤ
type_number types.Text = pos 0
type_number types.Double = pos 1
type_number types.Bool = pos 2
type_number types.Long = pos 3
type_number types.Binary = pos 4

abbrev pub IsTagType : List ℕ → TagType → Type 0
IsTagType w kind = IsI32 w (type_number kind)

-- the numbers of SpanRefType
abbrev pub kind_number : RefKind → ℤ
kind_number ChildOf = pos 0
kind_number FollowsFrom = pos 1

abbrev pub IsRefKind : List ℕ → RefKind → Type 0
IsRefKind w kind = IsI32 w (kind_number kind)

-- ---- structs

-- the field spells a value, and t is the state so far with that value set
abbrev pub Sets : {A S : Type 0} → (List ℕ → A → Type 0) → (A → S) → Field → S → Type 0
Sets {A = A} Spells set f t = (x : A) × Spells f.text x × (t ≡ set x)

-- the field is a value of its type, with at most 64 levels of containers, and changes nothing
abbrev pub Skips : {S : Type 0} → S → Field → S → Type 0
Skips s f t = IsValue 64 f.code f.text × (t ≡ s)

-- how a sequence of fields changes the state so far
abbrev pub Gathers : {S : Type 0} → (S → Field → S → Type 0) → S → List Field → S → Type 0
Gathers Does s [] t = t ≡ s
Gathers {S = S} Does s (f ∷ fs) t = (u : S) × Does s f u × Gathers Does u fs t

-- fields and a stop byte, which turn the state before them into the value
pub record IsStruct {S X : Type 0} (rule : StructRule S X) (w : List ℕ) (x : X) : Type 0 where
  pub fields : List Field
  pub spelled : IsFields fields w
  pub gathered : S
  pub gathers : Gathers rule.changes rule.none fields gathered
  pub makes : rule.makes gathered x

-- a list of structs
abbrev pub IsStructList : {X : Type 0} → (List ℕ → X → Type 0) → List ℕ → List X → Type 0
IsStructList Spells w xs = IsTypedList 12 Spells w xs

-- ---- Tag: 1 key (string), 2 vType (enum TagType), 3 vStr (string), 4 vDouble (double), 5 vBool (bool), 6 vLong (i64), 7 vBinary (binary)

unfoldable pub TagField : TagSlots → Field → TagSlots → Type 0
TagField s f t =
    MatchBool (has 11 (pos 1) f) (Sets IsText (λ x. record s { key = Some x }) f t) (
    MatchBool (has 8 (pos 2) f) (Sets IsTagType (λ x. record s { kind = Some x }) f t) (
    MatchBool (has 11 (pos 3) f) (Sets IsText (λ x. record s { text = x }) f t) (
    MatchBool (has 4 (pos 4) f) (Sets IsDouble (λ x. record s { double = x }) f t) (
    MatchBool (has 2 (pos 5) f) (Sets IsBool (λ x. record s { boolean = x }) f t) (
    MatchBool (has 10 (pos 6) f) (Sets IsI64 (λ x. record s { long = x }) f t) (
    MatchBool (has 11 (pos 7) f) (Sets IsString (λ x. record s { binary = x }) f t) (
    Skips s f t)))))))

-- the key and the type are there, and the value is the one that the type names
pub record MakesTag (s : TagSlots) (x : Tag) : Type 0 where
  pub key : s.key ≡ Some x.key
  pub kind : TagType
  pub named : s.kind ≡ Some kind
  pub value : x.value ≡ value_named kind s

abbrev pub tag_rule : StructRule TagSlots Tag
tag_rule = record { none = no_tag; changes = TagField; makes = MakesTag }

unfoldable pub IsTag : List ℕ → Tag → Type 0
IsTag w x = IsStruct tag_rule w x

-- ---- Log: 1 timestamp (i64), 2 fields (list of Tag)

unfoldable pub LogField : LogSlots → Field → LogSlots → Type 0
LogField s f t =
    MatchBool (has 10 (pos 1) f) (Sets IsI64 (λ x. record s { at = Some x }) f t) (
    MatchBool (has 15 (pos 2) f) (Sets (IsStructList IsTag) (λ x. record s { fields = Some x }) f t) (
    Skips s f t))

-- the slots of a complete log
abbrev pub whole_log : Log → LogSlots
whole_log x = record { at = Some x.at; fields = Some x.fields }

abbrev pub log_rule : StructRule LogSlots Log
log_rule = record { none = no_log; changes = LogField; makes = λ s y. s ≡ whole_log y }

unfoldable pub IsLog : List ℕ → Log → Type 0
IsLog w x = IsStruct log_rule w x

-- ---- SpanRef: 1 refType (enum SpanRefType), 2 traceIdLow, 3 traceIdHigh, 4 spanId (i64)

unfoldable pub ReferenceField : ReferenceSlots → Field → ReferenceSlots → Type 0
ReferenceField s f t =
    MatchBool (has 8 (pos 1) f) (Sets IsRefKind (λ x. record s { kind = Some x }) f t) (
    MatchBool (has 10 (pos 2) f) (Sets IsId (λ x. record s { trace_low = Some x }) f t) (
    MatchBool (has 10 (pos 3) f) (Sets IsId (λ x. record s { trace_high = Some x }) f t) (
    MatchBool (has 10 (pos 4) f) (Sets IsId (λ x. record s { id = Some x }) f t) (
    Skips s f t))))

abbrev pub whole_reference : SpanRef → ReferenceSlots
whole_reference x = record { kind = Some x.kind; trace_low = Some x.trace.low; trace_high = Some x.trace.high; id = Some x.id.0 }

abbrev pub reference_rule : StructRule ReferenceSlots SpanRef
reference_rule = record { none = no_reference; changes = ReferenceField; makes = λ s y. s ≡ whole_reference y }

unfoldable pub IsReference : List ℕ → SpanRef → Type 0
IsReference w x = IsStruct reference_rule w x

-- ---- Process: 1 serviceName (string), 2 tags (list of Tag)

unfoldable pub ProcessField : ProcessSlots → Field → ProcessSlots → Type 0
ProcessField s f t =
    MatchBool (has 11 (pos 1) f) (Sets IsText (λ x. record s { service = Some x }) f t) (
    MatchBool (has 15 (pos 2) f) (Sets (IsStructList IsTag) (λ x. record s { tags = x }) f t) (
    Skips s f t))

abbrev pub whole_process : Process → ProcessSlots
whole_process x = record { service = Some x.service; tags = x.tags }

abbrev pub process_rule : StructRule ProcessSlots Process
process_rule = record { none = no_process; changes = ProcessField; makes = λ s y. s ≡ whole_process y }

unfoldable pub IsProcess : List ℕ → Process → Type 0
IsProcess w x = IsStruct process_rule w x

-- ---- Span: 1 traceIdLow, 2 traceIdHigh, 3 spanId, 4 parentSpanId (i64), 5 operationName (string), 6 references (list of SpanRef),
-- 7 flags (i32), 8 startTime, 9 duration (i64), 10 tags (list of Tag), 11 logs (list of Log)

unfoldable pub SpanField : SpanSlots → Field → SpanSlots → Type 0
SpanField s f t =
    MatchBool (has 10 (pos 1) f) (Sets IsId (λ x. record s { trace_low = Some x }) f t) (
    MatchBool (has 10 (pos 2) f) (Sets IsId (λ x. record s { trace_high = Some x }) f t) (
    MatchBool (has 10 (pos 3) f) (Sets IsId (λ x. record s { id = Some x }) f t) (
    MatchBool (has 10 (pos 4) f) (Sets IsId (λ x. record s { parent = Some x }) f t) (
    MatchBool (has 11 (pos 5) f) (Sets IsText (λ x. record s { operation = Some x }) f t) (
    MatchBool (has 15 (pos 6) f) (Sets (IsStructList IsReference) (λ x. record s { references = x }) f t) (
    MatchBool (has 8 (pos 7) f) (Sets IsI32 (λ x. record s { flags = Some x }) f t) (
    MatchBool (has 10 (pos 8) f) (Sets IsI64 (λ x. record s { start = Some x }) f t) (
    MatchBool (has 10 (pos 9) f) (Sets IsI64 (λ x. record s { duration = Some x }) f t) (
    MatchBool (has 15 (pos 10) f) (Sets (IsStructList IsTag) (λ x. record s { tags = x }) f t) (
    MatchBool (has 15 (pos 11) f) (Sets (IsStructList IsLog) (λ x. record s { logs = x }) f t) (
    Skips s f t)))))))))))

abbrev pub whole_span : Span → SpanSlots
whole_span x = record {
  trace_low = Some x.trace.low;
  trace_high = Some x.trace.high;
  id = Some x.id.0;
  parent = Some x.parent.0;
  operation = Some x.operation;
  references = x.references;
  flags = Some x.flags;
  start = Some x.start;
  duration = Some x.duration;
  tags = x.tags;
  logs = x.logs;
}

abbrev pub span_rule : StructRule SpanSlots Span
span_rule = record { none = no_span; changes = SpanField; makes = λ s y. s ≡ whole_span y }

unfoldable pub IsSpan : List ℕ → Span → Type 0
IsSpan w x = IsStruct span_rule w x

-- ---- Batch: 1 process (Process), 2 spans (list of Span), 3 seqNo (i64); 4 stats is skipped

unfoldable pub BatchField : BatchSlots → Field → BatchSlots → Type 0
BatchField s f t =
    MatchBool (has 12 (pos 1) f) (Sets IsProcess (λ x. record s { process = Some x }) f t) (
    MatchBool (has 15 (pos 2) f) (Sets (IsStructList IsSpan) (λ x. record s { spans = Some x }) f t) (
    MatchBool (has 10 (pos 3) f) (Sets IsI64 (λ x. record s { seq_no = Some x }) f t) (
    Skips s f t)))

abbrev pub whole_batch : Batch → BatchSlots
whole_batch x = record { process = Some x.process; spans = Some x.spans; seq_no = x.seq_no }

abbrev pub batch_rule : StructRule BatchSlots Batch
batch_rule = record { none = no_batch; changes = BatchField; makes = λ s y. s ≡ whole_batch y }

-- all of the bytes spell the batch
unfoldable pub IsBatch : List ℕ → Batch → Type 0
IsBatch w x = IsStruct batch_rule w x

-- ---- the result of decoding

-- a batch that all of the bytes spell is the result, unless memory ran out
abbrev pub Answers : List ℕ → Result Batch DecodeError → Type 0
Answers w result = (b : Batch) → IsBatch w b → (result ≡ Ok b) ⊎ (result ≡ Err Memory)
