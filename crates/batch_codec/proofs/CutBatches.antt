-- The faults in the structs of `jaeger.thrift`, and in a batch, have places, and none is Trailing.
use Rattle.std.proofs.Common.{◌≡◌, ℕ, ℤ, pos, Bool, cond, eqb, ◌&&◌, List, Some, Result, Ok, Err}
use Rattle.std.specs.Ordering.{int_eq}
use Rattle.thrift_binary.specs.Reading.{◌>>=◌}
use Rattle.thrift_binary.specs.Fields.{Take, fields_at}
use Rattle.thrift_binary.specs.Lists.{list_of}
use Rattle.batch_codec.specs.declared.fault.DecodeError.{DecodeError}
use Rattle.batch_codec.specs.declared.fault.DecodeError.TheVariants.{Trailing}
use Rattle.batch_codec.specs.declared.tag.TagSlots.{TagSlots}
use Rattle.batch_codec.specs.declared.log.LogSlots.{LogSlots}
use Rattle.batch_codec.specs.declared.reference.ReferenceSlots.{ReferenceSlots}
use Rattle.batch_codec.specs.declared.process.ProcessSlots.{ProcessSlots}
use Rattle.batch_codec.specs.declared.span.SpanSlots.{SpanSlots}
use Rattle.batch_codec.specs.declared.batch.BatchSlots.{BatchSlots}
use Rattle.batch_codec.specs.Decoding.{Reading, wire, skipped, bool_at, double_at, i32_at, i64_at, id_at, text_at, binary_at}
use Rattle.batch_codec.specs.EmptySlots.{no_tag, no_log, no_reference, no_process, no_span, no_batch}
use Rattle.batch_codec.specs.TagReading.{take_tag, tag_from, tag_at, type_at}
use Rattle.batch_codec.specs.LogReading.{take_log, log_from, log_at}
use Rattle.batch_codec.specs.ReferenceReading.{take_reference, reference_from, reference_at, kind_at}
use Rattle.batch_codec.specs.ProcessReading.{take_process, process_from, process_at}
use Rattle.batch_codec.specs.SpanReading.{take_span, span_from, span_at}
use Rattle.batch_codec.specs.BatchReading.{take_batch, batch_from, batch_at}
use Rattle.batch_codec.proofs.CutStructs.{Safe, SafeAt, bool_safe, double_safe, i32_safe, i64_safe, id_safe, text_safe, binary_safe, kind_safe, type_safe}
use Rattle.batch_codec.proofs.CutStructs.{known_safe, skipped_safe, list_safe, struct_safe}
use Rattle.batch_codec.proofs.AtStop.{OnlyMissing, tag_missing, log_missing, reference_missing, process_missing, span_missing, batch_missing}
use Rattle.batch_codec.proofs.NeverTrailing.{Not, Never, bool_never, double_never, i32_never, i64_never, id_never, text_never, binary_never, kind_never}
use Rattle.batch_codec.proofs.NeverTrailing.{type_never, known_never, skipped_never, list_never, struct_never}

-- the faults of the reading have places, and none is Trailing
abbrev Sound : {A : Type 0} → Reading A → Type 0
Sound read = Safe read × Never read

-- the faults have places at these bytes, and none is Trailing
abbrev SoundAt : {A : Type 0} → Reading A → List ℕ → Type 0
SoundAt read w = SafeAt read w × Not (read w)

known_sound : {A S : Type 0} (read : Reading A) → Sound read → (set : A → S) (b : Bool) (others : Reading S) (w : List ℕ) → SoundAt others w
    → SoundAt (λ v. cond b (read v >>= λ x. Ok (set x.0, x.1)) (others v)) w
known_sound read sound set b others w more = (known_safe read sound.0 set b others w more.0, known_never read sound.1 set b w (others w) more.1)

skipped_sound : {S : Type 0} (s : S) (c : ℕ) (w : List ℕ) → SoundAt (skipped s c) w
skipped_sound s c w = (skipped_safe s c w, skipped_never s c w)

list_sound : {A : Type 0} (read : Reading A) → Sound read → Sound (list_of wire 12 read)
list_sound read sound = (list_safe read sound.0, list_never read sound.1)

struct_sound : {S X : Type 0} (take : Take S DecodeError) (none : S) (from : S → Result X DecodeError)
    → ((s : S) (c : ℕ) (i : ℤ) (w : List ℕ) → SoundAt (take s c i) w) → ((s : S) → OnlyMissing (from s))
    → Sound (λ w. fields_at wire take none w >>= λ y. from y.0 >>= λ z. Ok (z, y.1))
struct_sound take none from sound made =
    (struct_safe take none from (λ s c i w. (sound s c i w).0), struct_never take none from (λ s c i w. (sound s c i w).1) made)

take_tag_sound : (s : TagSlots) (c : ℕ) (i : ℤ) (w : List ℕ) → SoundAt (take_tag s c i) w
unfolding take_tag
take_tag_sound s c i w =
    known_sound text_at (text_safe, text_never) (λ x. record s { key = Some x }) (eqb c 11 && int_eq i (pos 1)) _ w (
    known_sound type_at (type_safe, type_never) (λ x. record s { kind = Some x }) (eqb c 8 && int_eq i (pos 2)) _ w (
    known_sound text_at (text_safe, text_never) (λ x. record s { text = x }) (eqb c 11 && int_eq i (pos 3)) _ w (
    known_sound double_at (double_safe, double_never) (λ x. record s { double = x }) (eqb c 4 && int_eq i (pos 4)) _ w (
    known_sound bool_at (bool_safe, bool_never) (λ x. record s { boolean = x }) (eqb c 2 && int_eq i (pos 5)) _ w (
    known_sound i64_at (i64_safe, i64_never) (λ x. record s { long = x }) (eqb c 10 && int_eq i (pos 6)) _ w (
    known_sound binary_at (binary_safe, binary_never) (λ x. record s { binary = x }) (eqb c 11 && int_eq i (pos 7)) _ w (
    skipped_sound s c w)))))))

pub take_tag_safe : (s : TagSlots) (c : ℕ) (i : ℤ) (w : List ℕ) → SafeAt (take_tag s c i) w
take_tag_safe s c i w = (take_tag_sound s c i w).0

tag_sound : Sound tag_at
unfolding tag_at
tag_sound = struct_sound take_tag no_tag tag_from take_tag_sound tag_missing

take_log_sound : (s : LogSlots) (c : ℕ) (i : ℤ) (w : List ℕ) → SoundAt (take_log s c i) w
unfolding take_log
take_log_sound s c i w =
    known_sound i64_at (i64_safe, i64_never) (λ x. record s { at = Some x }) (eqb c 10 && int_eq i (pos 1)) _ w (
    known_sound (list_of wire 12 tag_at) (list_sound tag_at tag_sound) (λ x. record s { fields = Some x }) (eqb c 15 && int_eq i (pos 2)) _ w (
    skipped_sound s c w))

pub take_log_safe : (s : LogSlots) (c : ℕ) (i : ℤ) (w : List ℕ) → SafeAt (take_log s c i) w
take_log_safe s c i w = (take_log_sound s c i w).0

log_sound : Sound log_at
unfolding log_at
log_sound = struct_sound take_log no_log log_from take_log_sound log_missing

take_reference_sound : (s : ReferenceSlots) (c : ℕ) (i : ℤ) (w : List ℕ) → SoundAt (take_reference s c i) w
unfolding take_reference
take_reference_sound s c i w =
    known_sound kind_at (kind_safe, kind_never) (λ x. record s { kind = Some x }) (eqb c 8 && int_eq i (pos 1)) _ w (
    known_sound id_at (id_safe, id_never) (λ x. record s { trace_low = Some x }) (eqb c 10 && int_eq i (pos 2)) _ w (
    known_sound id_at (id_safe, id_never) (λ x. record s { trace_high = Some x }) (eqb c 10 && int_eq i (pos 3)) _ w (
    known_sound id_at (id_safe, id_never) (λ x. record s { id = Some x }) (eqb c 10 && int_eq i (pos 4)) _ w (
    skipped_sound s c w))))

pub take_reference_safe : (s : ReferenceSlots) (c : ℕ) (i : ℤ) (w : List ℕ) → SafeAt (take_reference s c i) w
take_reference_safe s c i w = (take_reference_sound s c i w).0

reference_sound : Sound reference_at
unfolding reference_at
reference_sound = struct_sound take_reference no_reference reference_from take_reference_sound reference_missing

take_process_sound : (s : ProcessSlots) (c : ℕ) (i : ℤ) (w : List ℕ) → SoundAt (take_process s c i) w
unfolding take_process
take_process_sound s c i w =
    known_sound text_at (text_safe, text_never) (λ x. record s { service = Some x }) (eqb c 11 && int_eq i (pos 1)) _ w (
    known_sound (list_of wire 12 tag_at) (list_sound tag_at tag_sound) (λ x. record s { tags = x }) (eqb c 15 && int_eq i (pos 2)) _ w (
    skipped_sound s c w))

pub take_process_safe : (s : ProcessSlots) (c : ℕ) (i : ℤ) (w : List ℕ) → SafeAt (take_process s c i) w
take_process_safe s c i w = (take_process_sound s c i w).0

process_sound : Sound process_at
unfolding process_at
process_sound = struct_sound take_process no_process process_from take_process_sound process_missing

take_span_sound : (s : SpanSlots) (c : ℕ) (i : ℤ) (w : List ℕ) → SoundAt (take_span s c i) w
unfolding take_span
take_span_sound s c i w =
    known_sound id_at (id_safe, id_never) (λ x. record s { trace_low = Some x }) (eqb c 10 && int_eq i (pos 1)) _ w (
    known_sound id_at (id_safe, id_never) (λ x. record s { trace_high = Some x }) (eqb c 10 && int_eq i (pos 2)) _ w (
    known_sound id_at (id_safe, id_never) (λ x. record s { id = Some x }) (eqb c 10 && int_eq i (pos 3)) _ w (
    known_sound id_at (id_safe, id_never) (λ x. record s { parent = Some x }) (eqb c 10 && int_eq i (pos 4)) _ w (
    known_sound text_at (text_safe, text_never) (λ x. record s { operation = Some x }) (eqb c 11 && int_eq i (pos 5)) _ w (
    known_sound (list_of wire 12 reference_at) (list_sound reference_at reference_sound) (λ x. record s { references = x }) (eqb c 15 && int_eq i (pos 6)) _ w (
    known_sound i32_at (i32_safe, i32_never) (λ x. record s { flags = Some x }) (eqb c 8 && int_eq i (pos 7)) _ w (
    known_sound i64_at (i64_safe, i64_never) (λ x. record s { start = Some x }) (eqb c 10 && int_eq i (pos 8)) _ w (
    known_sound i64_at (i64_safe, i64_never) (λ x. record s { duration = Some x }) (eqb c 10 && int_eq i (pos 9)) _ w (
    known_sound (list_of wire 12 tag_at) (list_sound tag_at tag_sound) (λ x. record s { tags = x }) (eqb c 15 && int_eq i (pos 10)) _ w (
    known_sound (list_of wire 12 log_at) (list_sound log_at log_sound) (λ x. record s { logs = x }) (eqb c 15 && int_eq i (pos 11)) _ w (
    skipped_sound s c w)))))))))))

pub take_span_safe : (s : SpanSlots) (c : ℕ) (i : ℤ) (w : List ℕ) → SafeAt (take_span s c i) w
take_span_safe s c i w = (take_span_sound s c i w).0

span_sound : Sound span_at
unfolding span_at
span_sound = struct_sound take_span no_span span_from take_span_sound span_missing

take_batch_sound : (s : BatchSlots) (c : ℕ) (i : ℤ) (w : List ℕ) → SoundAt (take_batch s c i) w
unfolding take_batch
take_batch_sound s c i w =
    known_sound process_at process_sound (λ x. record s { process = Some x }) (eqb c 12 && int_eq i (pos 1)) _ w (
    known_sound (list_of wire 12 span_at) (list_sound span_at span_sound) (λ x. record s { spans = Some x }) (eqb c 15 && int_eq i (pos 2)) _ w (
    known_sound i64_at (i64_safe, i64_never) (λ x. record s { seq_no = Some x }) (eqb c 10 && int_eq i (pos 3)) _ w (
    skipped_sound s c w)))

pub take_batch_safe : (s : BatchSlots) (c : ℕ) (i : ℤ) (w : List ℕ) → SafeAt (take_batch s c i) w
take_batch_safe s c i w = (take_batch_sound s c i w).0

batch_sound : Sound batch_at
unfolding batch_at
batch_sound = struct_sound take_batch no_batch batch_from take_batch_sound batch_missing

pub batch_safe : Safe batch_at
batch_safe = batch_sound.0

pub batch_never : (w : List ℕ) → batch_at w ≡ Err Trailing → ⊥
batch_never w e = (batch_sound.1 w).never e
