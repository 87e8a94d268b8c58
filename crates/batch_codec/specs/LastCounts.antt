-- Of several fields with one id and the declared type the last counts, and each of them spells a value;
-- every other field is a value of its type, and changes nothing. This determines which bytes spell a struct.
use Rattle.std.specs.Prelude.{◌≡◌, ◌↔◌, ℕ, ℤ, pos, List, [], ◌∷◌, Bool, ◌||◌, Some, false}
use Rattle.std.specs.List.{AllByRecursion}
use Rattle.thrift_binary.specs.Spelling.{Field, IsFields, IsLast, IsString, IsBool, IsDouble, IsI32, IsI64, IsValue, has}
use Rattle.batch_codec.specs.declared.tag.TagSlots.{TagSlots}
use Rattle.batch_codec.specs.declared.log.LogSlots.{LogSlots}
use Rattle.batch_codec.specs.declared.reference.ReferenceSlots.{ReferenceSlots}
use Rattle.batch_codec.specs.declared.process.ProcessSlots.{ProcessSlots}
use Rattle.batch_codec.specs.declared.span.SpanSlots.{SpanSlots}
use Rattle.batch_codec.specs.declared.batch.BatchSlots.{BatchSlots}
use Rattle.batch_codec.specs.StructRules.{StructRule, KnownFields}
use Rattle.batch_codec.specs.Batches.{IsText, IsId, IsTagType, IsRefKind, IsStructList, IsTag, IsLog, IsReference, IsProcess, IsSpan, IsBatch}
use Rattle.batch_codec.specs.Batches.{tag_rule, log_rule, reference_rule, process_rule, span_rule, batch_rule}

-- the field has one of these types and ids
abbrev pub is_known : List (ℕ × ℤ) → Field → Bool
is_known [] f = false
is_known (d ∷ ds) f = has d.0 d.1 f || is_known ds f

-- each other field is a value of its type, with at most 64 levels of containers
abbrev pub OthersAreValues : List (ℕ × ℤ) → List Field → Type 0
OthersAreValues known fs = AllByRecursion (λ f. is_known known f ≡ false → IsValue 64 f.code f.text) fs

-- w divides into fields: the last ones of each known type and id yield x, and the others are values
pub record LastCounts {S X : Type 0} (rule : StructRule S X) (known : KnownFields S) (w : List ℕ) (x : X) : Type 0 where
  pub fields : List Field
  pub spelled : IsFields fields w
  pub left : S
  pub last : known.last rule.none fields left
  pub makes : rule.makes left x
  pub others : OthersAreValues known.types fields

-- The bytes that spell a value are exactly those that divide so; they do in one way, with one value.
pub record IsByLast {S X : Type 0} (Spells : List ℕ → X → Type 0) (rule : StructRule S X) (known : KnownFields S) : Type 0 where
  pub same : (w : List ℕ) (x : X) → Spells w x ↔ LastCounts rule known w x
  pub one : (w : List ℕ) (x y : X) (a : LastCounts rule known w x) (b : LastCounts rule known w y) → (a.fields ≡ b.fields) × (x ≡ y)

-- ---- the types and the ids of the known fields

abbrev pub known_of_tag : List (ℕ × ℤ)
known_of_tag = (11, pos 1) ∷ (8, pos 2) ∷ (11, pos 3) ∷ (4, pos 4) ∷ (2, pos 5) ∷ (10, pos 6) ∷ (11, pos 7) ∷ []

abbrev pub known_of_log : List (ℕ × ℤ)
known_of_log = (10, pos 1) ∷ (15, pos 2) ∷ []

abbrev pub known_of_reference : List (ℕ × ℤ)
known_of_reference = (8, pos 1) ∷ (10, pos 2) ∷ (10, pos 3) ∷ (10, pos 4) ∷ []

abbrev pub known_of_process : List (ℕ × ℤ)
known_of_process = (11, pos 1) ∷ (15, pos 2) ∷ []

abbrev pub known_of_span : List (ℕ × ℤ)
known_of_span =
    (10, pos 1) ∷ (10, pos 2) ∷ (10, pos 3) ∷ (10, pos 4) ∷ (11, pos 5) ∷ (15, pos 6) ∷ (8, pos 7) ∷ (10, pos 8) ∷ (10, pos 9) ∷ (15, pos 10) ∷ (15, pos 11)
    ∷ []

abbrev pub known_of_batch : List (ℕ × ℤ)
known_of_batch = (12, pos 1) ∷ (15, pos 2) ∷ (10, pos 3) ∷ []

-- ---- the state after the last of the known fields

-- Slot by slot: from s on, the last of the fields fs that has the slot's type and id leaves t there, and each
-- of them spells a value; if there is none, t has what s has.

abbrev pub LastOfTag : TagSlots → List Field → TagSlots → Type 0
LastOfTag s fs t =
    IsLast 11 (pos 1) IsText s.key fs t.key
    × IsLast 8 (pos 2) IsTagType s.kind fs t.kind
    × IsLast 11 (pos 3) IsText (Some s.text) fs (Some t.text)
    × IsLast 4 (pos 4) IsDouble (Some s.double) fs (Some t.double)
    × IsLast 2 (pos 5) IsBool (Some s.boolean) fs (Some t.boolean)
    × IsLast 10 (pos 6) IsI64 (Some s.long) fs (Some t.long)
    × IsLast 11 (pos 7) IsString (Some s.binary) fs (Some t.binary)

abbrev pub LastOfLog : LogSlots → List Field → LogSlots → Type 0
LastOfLog s fs t =
    IsLast 10 (pos 1) IsI64 s.at fs t.at
    × IsLast 15 (pos 2) (IsStructList IsTag) s.fields fs t.fields

abbrev pub LastOfReference : ReferenceSlots → List Field → ReferenceSlots → Type 0
LastOfReference s fs t =
    IsLast 8 (pos 1) IsRefKind s.kind fs t.kind
    × IsLast 10 (pos 2) IsId s.trace_low fs t.trace_low
    × IsLast 10 (pos 3) IsId s.trace_high fs t.trace_high
    × IsLast 10 (pos 4) IsId s.id fs t.id

abbrev pub LastOfProcess : ProcessSlots → List Field → ProcessSlots → Type 0
LastOfProcess s fs t =
    IsLast 11 (pos 1) IsText s.service fs t.service
    × IsLast 15 (pos 2) (IsStructList IsTag) (Some s.tags) fs (Some t.tags)

abbrev pub LastOfSpan : SpanSlots → List Field → SpanSlots → Type 0
LastOfSpan s fs t =
    IsLast 10 (pos 1) IsId s.trace_low fs t.trace_low
    × IsLast 10 (pos 2) IsId s.trace_high fs t.trace_high
    × IsLast 10 (pos 3) IsId s.id fs t.id
    × IsLast 10 (pos 4) IsId s.parent fs t.parent
    × IsLast 11 (pos 5) IsText s.operation fs t.operation
    × IsLast 15 (pos 6) (IsStructList IsReference) (Some s.references) fs (Some t.references)
    × IsLast 8 (pos 7) IsI32 s.flags fs t.flags
    × IsLast 10 (pos 8) IsI64 s.start fs t.start
    × IsLast 10 (pos 9) IsI64 s.duration fs t.duration
    × IsLast 15 (pos 10) (IsStructList IsTag) (Some s.tags) fs (Some t.tags)
    × IsLast 15 (pos 11) (IsStructList IsLog) (Some s.logs) fs (Some t.logs)

abbrev pub LastOfBatch : BatchSlots → List Field → BatchSlots → Type 0
LastOfBatch s fs t =
    IsLast 12 (pos 1) IsProcess s.process fs t.process
    × IsLast 15 (pos 2) (IsStructList IsSpan) s.spans fs t.spans
    × IsLast 10 (pos 3) IsI64 s.seq_no fs t.seq_no

-- ---- the known fields of each struct

abbrev pub fields_of_tag : KnownFields TagSlots
fields_of_tag = record { types = known_of_tag; last = LastOfTag }

abbrev pub fields_of_log : KnownFields LogSlots
fields_of_log = record { types = known_of_log; last = LastOfLog }

abbrev pub fields_of_reference : KnownFields ReferenceSlots
fields_of_reference = record { types = known_of_reference; last = LastOfReference }

abbrev pub fields_of_process : KnownFields ProcessSlots
fields_of_process = record { types = known_of_process; last = LastOfProcess }

abbrev pub fields_of_span : KnownFields SpanSlots
fields_of_span = record { types = known_of_span; last = LastOfSpan }

abbrev pub fields_of_batch : KnownFields BatchSlots
fields_of_batch = record { types = known_of_batch; last = LastOfBatch }

-- ---- the facts, each of a struct that is read from its first field on

abbrev pub TagLast : Type 0
TagLast = IsByLast IsTag tag_rule fields_of_tag

abbrev pub LogLast : Type 0
LogLast = IsByLast IsLog log_rule fields_of_log

abbrev pub ReferenceLast : Type 0
ReferenceLast = IsByLast IsReference reference_rule fields_of_reference

abbrev pub ProcessLast : Type 0
ProcessLast = IsByLast IsProcess process_rule fields_of_process

abbrev pub SpanLast : Type 0
SpanLast = IsByLast IsSpan span_rule fields_of_span

abbrev pub BatchLast : Type 0
BatchLast = IsByLast IsBatch batch_rule fields_of_batch
