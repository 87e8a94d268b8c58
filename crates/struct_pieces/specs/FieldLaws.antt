-- Laws that the impls of this crate name. They are in specs/, since a clause can't name its own crate's proofs/.
-- The faults of a field of a struct of `jaeger.thrift` have places, and a missing field isn't reported as too few bytes.
use Rattle.std.specs.Prelude.{◌≡◌, ℕ, ℤ, Err}
use Rattle.thrift_binary.specs.declared.fault.WireError.TheVariants.{Truncated}
use Rattle.thrift_binary.specs.Cuts.{IsCutSafe}
use Rattle.batch_codec.specs.declared.fault.DecodeError.TheVariants.{Wire}
use Rattle.batch_codec.specs.declared.tag.TagSlots.{TagSlots}
use Rattle.batch_codec.specs.declared.log.LogSlots.{LogSlots}
use Rattle.batch_codec.specs.declared.reference.ReferenceSlots.{ReferenceSlots}
use Rattle.batch_codec.specs.declared.process.ProcessSlots.{ProcessSlots}
use Rattle.batch_codec.specs.declared.span.SpanSlots.{SpanSlots}
use Rattle.batch_codec.specs.declared.batch.BatchSlots.{BatchSlots}
use Rattle.batch_codec.specs.TagReading.{take_tag, tag_from}
use Rattle.batch_codec.specs.LogReading.{take_log, log_from}
use Rattle.batch_codec.specs.ReferenceReading.{take_reference, reference_from}
use Rattle.batch_codec.specs.ProcessReading.{take_process, process_from}
use Rattle.batch_codec.specs.SpanReading.{take_span, span_from}
use Rattle.batch_codec.specs.BatchReading.{take_batch, batch_from}
use Rattle.batch_codec.proofs.AtStop.{never_short, tag_missing, log_missing, reference_missing, process_missing, span_missing, batch_missing}
use Rattle.batch_codec.proofs.CutBatches as cuts

pub take_tag_safe : (s : TagSlots) (c : ℕ) (i : ℤ) → IsCutSafe (Wire Truncated) (take_tag s c i)
take_tag_safe = cuts.take_tag_safe

pub tag_not_short : (s : TagSlots) → tag_from s ≡ Err (Wire Truncated) → ⊥
tag_not_short s = never_short (tag_missing s)

pub take_log_safe : (s : LogSlots) (c : ℕ) (i : ℤ) → IsCutSafe (Wire Truncated) (take_log s c i)
take_log_safe = cuts.take_log_safe

pub log_not_short : (s : LogSlots) → log_from s ≡ Err (Wire Truncated) → ⊥
log_not_short s = never_short (log_missing s)

pub take_reference_safe : (s : ReferenceSlots) (c : ℕ) (i : ℤ) → IsCutSafe (Wire Truncated) (take_reference s c i)
take_reference_safe = cuts.take_reference_safe

pub reference_not_short : (s : ReferenceSlots) → reference_from s ≡ Err (Wire Truncated) → ⊥
reference_not_short s = never_short (reference_missing s)

pub take_process_safe : (s : ProcessSlots) (c : ℕ) (i : ℤ) → IsCutSafe (Wire Truncated) (take_process s c i)
take_process_safe = cuts.take_process_safe

pub process_not_short : (s : ProcessSlots) → process_from s ≡ Err (Wire Truncated) → ⊥
process_not_short s = never_short (process_missing s)

pub take_span_safe : (s : SpanSlots) (c : ℕ) (i : ℤ) → IsCutSafe (Wire Truncated) (take_span s c i)
take_span_safe = cuts.take_span_safe

pub span_not_short : (s : SpanSlots) → span_from s ≡ Err (Wire Truncated) → ⊥
span_not_short s = never_short (span_missing s)

pub take_batch_safe : (s : BatchSlots) (c : ℕ) (i : ℤ) → IsCutSafe (Wire Truncated) (take_batch s c i)
take_batch_safe = cuts.take_batch_safe

pub batch_not_short : (s : BatchSlots) → batch_from s ≡ Err (Wire Truncated) → ⊥
batch_not_short s = never_short (batch_missing s)
