-- Batches that a program can hold and that can be encoded: texts are UTF-8, numbers are in the ranges of their types, and
-- no length is above 2,147,483,647. These are definitions alone; std has that of SFits in its proofs/.
use Rattle.std.specs.Prelude.{◌≡◌, ℕ, ℤ, ◌<◌, ◌^◌, List, length, Option, Some, None}
use Rattle.std.specs.Str.{IsUtf8}
use Rattle.std.specs.List.{AllByRecursion}
use Rattle.std.specs.Int.{w32, w64}
use Rattle.std.proofs.Common.{SFits}
use Rattle.jaeger_model.specs.declared.tag.Tag.{Tag}
use Rattle.jaeger_model.specs.declared.tag.Value.{Value}
use Rattle.jaeger_model.specs.declared.tag.Value.TheVariants as values
use Rattle.jaeger_model.specs.declared.span.Log.{Log}
use Rattle.jaeger_model.specs.declared.span.SpanRef.{SpanRef}
use Rattle.jaeger_model.specs.declared.span.Span.{Span}
use Rattle.jaeger_model.specs.declared.batch.Process.{Process}
use Rattle.jaeger_model.specs.declared.batch.Batch.{Batch}
use Rattle.batch_codec.specs.Batches.{IsBatch}
use Rattle.batch_codec.specs.BatchReading.{decoded}
use Rattle.batch_codec.specs.CanonicalTexts.{canon}
use Rattle.std.specs.Prelude.{Ok}

abbrev pub IsProperText : List ℕ → Type 0
IsProperText t = (length t < 2 ^ 31) × IsUtf8 t

abbrev pub AreProper : {A : Type 0} → (A → Type 0) → List A → Type 0
AreProper Is xs = (length xs < 2 ^ 31) × AllByRecursion Is xs

abbrev pub IsProperValue : Value → Type 0
IsProperValue (values.Text t) = IsProperText t
IsProperValue (values.Double d) = length d ≡ 8
IsProperValue (values.Bool b) = Unit {0}
IsProperValue (values.Long z) = SFits w64 z
IsProperValue (values.Bytes bs) = length bs < 2 ^ 31

pub record IsProperTag (t : Tag) : Type 0 where
  pub key : IsProperText t.key
  pub value : IsProperValue t.value

pub record IsProperLog (l : Log) : Type 0 where
  pub at : SFits w64 l.at
  pub fields : AreProper IsProperTag l.fields

pub record IsProperReference (r : SpanRef) : Type 0 where
  pub low : r.trace.low < 2 ^ 64
  pub high : r.trace.high < 2 ^ 64
  pub id : r.id.0 < 2 ^ 64

pub record IsProperProcess (p : Process) : Type 0 where
  pub service : IsProperText p.service
  pub tags : AreProper IsProperTag p.tags

-- the ids and the operation of a span
pub record IsProperFront (s : Span) : Type 0 where
  pub low : s.trace.low < 2 ^ 64
  pub high : s.trace.high < 2 ^ 64
  pub id : s.id.0 < 2 ^ 64
  pub parent : s.parent.0 < 2 ^ 64
  pub operation : IsProperText s.operation

-- the flags and the times of a span
pub record IsProperMiddle (s : Span) : Type 0 where
  pub flags : SFits w32 s.flags
  pub start : SFits w64 s.start
  pub duration : SFits w64 s.duration

pub record IsProperSpan (s : Span) : Type 0 where
  pub front : IsProperFront s
  pub references : AreProper IsProperReference s.references
  pub middle : IsProperMiddle s
  pub tags : AreProper IsProperTag s.tags
  pub logs : AreProper IsProperLog s.logs

abbrev pub IsProperNumber : Option ℤ → Type 0
IsProperNumber None = Unit {0}
IsProperNumber (Some z) = SFits w64 z

pub record IsProper (b : Batch) : Type 0 where
  pub process : IsProperProcess b.process
  pub spans : AreProper IsProperSpan b.spans
  pub seq_no : IsProperNumber b.seq_no

-- the one spelling of a batch spells it, and decoding it returns the batch
abbrev pub CanonSpells : Type 0
CanonSpells = (b : Batch) → IsProper b → IsBatch (canon b) b

abbrev pub CanonDecodes : Type 0
CanonDecodes = (b : Batch) → IsProper b → decoded (canon b) ≡ Ok b
