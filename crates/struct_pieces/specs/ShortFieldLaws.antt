-- Laws that the impls of this crate name, and their lemmas. They are in specs/, since a clause can't name its own crate's proofs/.
-- Reading a field of a struct of `jaeger.thrift` yields too few bytes if its value has fewer than every value of its type.
use Rattle.std.proofs.Common.{◌≡◌, ℕ, ℤ, pos, List, Some, Err}
use Rattle.std.specs.Ordering.{int_eq}
use Rattle.thrift_binary.specs.declared.fault.WireError.TheVariants.{Truncated}
use Rattle.batch_codec.specs.declared.tag.TagSlots.{TagSlots}
use Rattle.batch_codec.specs.declared.log.LogSlots.{LogSlots}
use Rattle.batch_codec.specs.declared.reference.ReferenceSlots.{ReferenceSlots}
use Rattle.batch_codec.specs.declared.process.ProcessSlots.{ProcessSlots}
use Rattle.batch_codec.specs.declared.span.SpanSlots.{SpanSlots}
use Rattle.batch_codec.specs.declared.batch.BatchSlots.{BatchSlots}
use Rattle.batch_codec.specs.declared.fault.DecodeError.TheVariants.{Wire}
use Rattle.batch_codec.specs.Decoding.{bool_at, double_at, i32_at, i64_at, id_at, text_at, binary_at}
use Rattle.batch_codec.specs.EmptySlots.{no_process}
use Rattle.batch_codec.specs.TagReading.{take_tag, tag_at, type_at}
use Rattle.batch_codec.specs.LogReading.{take_log, log_at}
use Rattle.batch_codec.specs.ReferenceReading.{take_reference, reference_at, kind_at}
use Rattle.batch_codec.specs.ProcessReading.{take_process, process_from, process_at}
use Rattle.batch_codec.specs.SpanReading.{take_span, span_at}
use Rattle.batch_codec.specs.BatchReading.{take_batch}
use Rattle.value_pieces.specs.LeastBytes.{least_bytes}
use Rattle.value_pieces.specs.ShortValueLaws.{Short, bool_short, double_short, i32_short, i64_short, id_short, text_short, binary_short, kind_short, type_short}
use Rattle.value_pieces.specs.ShortValueLaws.{list_short, struct_short, known_short, skipped_short}

pub take_tag_short : (s : TagSlots) (c : ℕ) (i : ℤ) (w : List ℕ) → least_bytes c w ≡ Err Truncated → take_tag s c i w ≡ Err (Wire Truncated)
unfolding take_tag
take_tag_short s c i w h =
    known_short 11 text_at text_short (λ x. record s { key = Some x }) c (int_eq i (pos 1)) w _ h (
    known_short 8 type_at type_short (λ x. record s { kind = Some x }) c (int_eq i (pos 2)) w _ h (
    known_short 11 text_at text_short (λ x. record s { text = x }) c (int_eq i (pos 3)) w _ h (
    known_short 4 double_at double_short (λ x. record s { double = x }) c (int_eq i (pos 4)) w _ h (
    known_short 2 bool_at bool_short (λ x. record s { boolean = x }) c (int_eq i (pos 5)) w _ h (
    known_short 10 i64_at i64_short (λ x. record s { long = x }) c (int_eq i (pos 6)) w _ h (
    known_short 11 binary_at binary_short (λ x. record s { binary = x }) c (int_eq i (pos 7)) w _ h (
    skipped_short s c w h)))))))

pub take_log_short : (s : LogSlots) (c : ℕ) (i : ℤ) (w : List ℕ) → least_bytes c w ≡ Err Truncated → take_log s c i w ≡ Err (Wire Truncated)
unfolding take_log
take_log_short s c i w h =
    known_short 10 i64_at i64_short (λ x. record s { at = Some x }) c (int_eq i (pos 1)) w _ h (
    known_short 15 _ (list_short tag_at) (λ x. record s { fields = Some x }) c (int_eq i (pos 2)) w _ h (
    skipped_short s c w h))

pub take_reference_short : (s : ReferenceSlots) (c : ℕ) (i : ℤ) (w : List ℕ) → least_bytes c w ≡ Err Truncated → take_reference s c i w ≡ Err (Wire Truncated)
unfolding take_reference
take_reference_short s c i w h =
    known_short 8 kind_at kind_short (λ x. record s { kind = Some x }) c (int_eq i (pos 1)) w _ h (
    known_short 10 id_at id_short (λ x. record s { trace_low = Some x }) c (int_eq i (pos 2)) w _ h (
    known_short 10 id_at id_short (λ x. record s { trace_high = Some x }) c (int_eq i (pos 3)) w _ h (
    known_short 10 id_at id_short (λ x. record s { id = Some x }) c (int_eq i (pos 4)) w _ h (
    skipped_short s c w h))))

pub take_process_short : (s : ProcessSlots) (c : ℕ) (i : ℤ) (w : List ℕ) → least_bytes c w ≡ Err Truncated → take_process s c i w ≡ Err (Wire Truncated)
unfolding take_process
take_process_short s c i w h =
    known_short 11 text_at text_short (λ x. record s { service = Some x }) c (int_eq i (pos 1)) w _ h (
    known_short 15 _ (list_short tag_at) (λ x. record s { tags = x }) c (int_eq i (pos 2)) w _ h (
    skipped_short s c w h))

pub take_span_short : (s : SpanSlots) (c : ℕ) (i : ℤ) (w : List ℕ) → least_bytes c w ≡ Err Truncated → take_span s c i w ≡ Err (Wire Truncated)
unfolding take_span
take_span_short s c i w h =
    known_short 10 id_at id_short (λ x. record s { trace_low = Some x }) c (int_eq i (pos 1)) w _ h (
    known_short 10 id_at id_short (λ x. record s { trace_high = Some x }) c (int_eq i (pos 2)) w _ h (
    known_short 10 id_at id_short (λ x. record s { id = Some x }) c (int_eq i (pos 3)) w _ h (
    known_short 10 id_at id_short (λ x. record s { parent = Some x }) c (int_eq i (pos 4)) w _ h (
    known_short 11 text_at text_short (λ x. record s { operation = Some x }) c (int_eq i (pos 5)) w _ h (
    known_short 15 _ (list_short reference_at) (λ x. record s { references = x }) c (int_eq i (pos 6)) w _ h (
    known_short 8 i32_at i32_short (λ x. record s { flags = Some x }) c (int_eq i (pos 7)) w _ h (
    known_short 10 i64_at i64_short (λ x. record s { start = Some x }) c (int_eq i (pos 8)) w _ h (
    known_short 10 i64_at i64_short (λ x. record s { duration = Some x }) c (int_eq i (pos 9)) w _ h (
    known_short 15 _ (list_short tag_at) (λ x. record s { tags = x }) c (int_eq i (pos 10)) w _ h (
    known_short 15 _ (list_short log_at) (λ x. record s { logs = x }) c (int_eq i (pos 11)) w _ h (
    skipped_short s c w h)))))))))))

process_short : Short 12 process_at
unfolding process_at
process_short = struct_short take_process no_process process_from

pub take_batch_short : (s : BatchSlots) (c : ℕ) (i : ℤ) (w : List ℕ) → least_bytes c w ≡ Err Truncated → take_batch s c i w ≡ Err (Wire Truncated)
unfolding take_batch
take_batch_short s c i w h =
    known_short 12 process_at process_short (λ x. record s { process = Some x }) c (int_eq i (pos 1)) w _ h (
    known_short 15 _ (list_short span_at) (λ x. record s { spans = Some x }) c (int_eq i (pos 2)) w _ h (
    known_short 10 i64_at i64_short (λ x. record s { seq_no = Some x }) c (int_eq i (pos 3)) w _ h (
    skipped_short s c w h)))
