-- The only fault at the stop byte of a struct is a missing field.
use Rattle.std.proofs.Common.{◌≡◌, ℕ, Bool, true, false, Option, Some, None, Result, Ok, Err, refl, ap, ◌∙◌}
use Rattle.thrift_binary.specs.declared.fault.WireError.TheVariants.{Truncated}
use Rattle.thrift_binary.specs.Reading.{◌>>=◌}
use Rattle.batch_codec.specs.declared.fault.DecodeError.{DecodeError}
use Rattle.batch_codec.specs.declared.fault.DecodeError.TheVariants.{Wire, Missing}
use Rattle.batch_codec.specs.declared.fault.StructName.{StructName}
use Rattle.batch_codec.specs.declared.fault.StructName.TheVariants as structs
use Rattle.batch_codec.specs.declared.tag.TagSlots.{TagSlots}
use Rattle.batch_codec.specs.declared.log.LogSlots.{LogSlots}
use Rattle.batch_codec.specs.declared.reference.ReferenceSlots.{ReferenceSlots}
use Rattle.batch_codec.specs.declared.process.ProcessSlots.{ProcessSlots}
use Rattle.batch_codec.specs.declared.span.SpanSlots.{SpanSlots}
use Rattle.batch_codec.specs.declared.batch.BatchSlots.{BatchSlots}
use Rattle.batch_codec.specs.Decoding.{required}
use Rattle.batch_codec.specs.TagReading.{tag_from}
use Rattle.batch_codec.specs.LogReading.{log_from}
use Rattle.batch_codec.specs.ReferenceReading.{reference_from}
use Rattle.batch_codec.specs.ProcessReading.{process_from}
use Rattle.batch_codec.specs.SpanReading.{span_from}
use Rattle.batch_codec.specs.BatchReading.{batch_from}

abbrev pub is_missing : DecodeError → Bool
is_missing (Missing name i) = true
is_missing e = false

-- no other fault
pub record OnlyMissing {A : Type 0} (r : Result A DecodeError) : Type 0 where
  pub no_other : (e : DecodeError) → is_missing e ≡ false → r ≡ Err e → ⊥

pub never_short : {A : Type 0} {r : Result A DecodeError} → OnlyMissing r → r ≡ Err (Wire Truncated) → ⊥
never_short missing = missing.no_other (Wire Truncated) refl

made : {A : Type 0} (x : A) → OnlyMissing (Ok x)
made x = record { no_other = λ e other h. absurd cc }

needs : {A B : Type 0} (o : Option A) (name : StructName) (i : ℕ) (f : A → Result B DecodeError) → ((x : A) → OnlyMissing (f x))
    → OnlyMissing (required o name i >>= f)
needs (Some x) name i f more = more x
needs None name i f more =
    record { no_other = λ e other h. (let same : Missing name i ≡ e = cc in let no : true ≡ false = ap is_missing same ∙ other in absurd cc) }

pub tag_missing : (s : TagSlots) → OnlyMissing (tag_from s)
unfolding tag_from
tag_missing s =
    needs s.key structs.Tag 1 _ (λ key.
    needs s.kind structs.Tag 2 _ (λ kind. made _))

pub log_missing : (s : LogSlots) → OnlyMissing (log_from s)
unfolding log_from
log_missing s =
    needs s.at structs.Log 1 _ (λ at.
    needs s.fields structs.Log 2 _ (λ fields. made _))

pub reference_missing : (s : ReferenceSlots) → OnlyMissing (reference_from s)
unfolding reference_from
reference_missing s =
    needs s.kind structs.SpanRef 1 _ (λ kind.
    needs s.trace_low structs.SpanRef 2 _ (λ low.
    needs s.trace_high structs.SpanRef 3 _ (λ high.
    needs s.id structs.SpanRef 4 _ (λ id. made _))))

pub process_missing : (s : ProcessSlots) → OnlyMissing (process_from s)
unfolding process_from
process_missing s = needs s.service structs.Process 1 _ (λ service. made _)

pub span_missing : (s : SpanSlots) → OnlyMissing (span_from s)
unfolding span_from
span_missing s =
    needs s.trace_low structs.Span 1 _ (λ low.
    needs s.trace_high structs.Span 2 _ (λ high.
    needs s.id structs.Span 3 _ (λ id.
    needs s.parent structs.Span 4 _ (λ parent.
    needs s.operation structs.Span 5 _ (λ operation.
    needs s.flags structs.Span 7 _ (λ flags.
    needs s.start structs.Span 8 _ (λ start.
    needs s.duration structs.Span 9 _ (λ duration. made _))))))))

pub batch_missing : (s : BatchSlots) → OnlyMissing (batch_from s)
unfolding batch_from
batch_missing s =
    needs s.process structs.Batch 1 _ (λ process.
    needs s.spans structs.Batch 2 _ (λ spans. made _))
