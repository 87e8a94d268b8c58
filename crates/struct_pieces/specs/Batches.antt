-- A partially received batch.
use Rattle.std.specs.Prelude.{◌++◌, Some, Ok}
use Rattle.thrift_binary.specs.Reading.{◌>>=◌}
use Rattle.jaeger_model.specs.declared.batch.Process.{Process}
use Rattle.batch_codec.specs.declared.batch.BatchSlots.{BatchSlots}
use Rattle.batch_codec.specs.Decoding.{Reading, i64_at}
use Rattle.batch_codec.specs.EmptySlots.{no_span}
use Rattle.batch_codec.specs.SpanReading.{take_span, span_from}
use Rattle.jaeger_model.specs.declared.batch.Batch.{Batch}
use Rattle.batch_codec.specs.BatchReading.{take_batch, batch_from}
use Rattle.struct_pieces.specs.declared.batch.PartialBatchField.{PartialBatchField}
use Rattle.struct_pieces.specs.declared.batch.PartialSharedProcess.{PartialSharedProcess}
use Rattle.struct_pieces.specs.declared.batch.PartialBatchField.TheVariants as held
use Rattle.value_pieces.specs.Values.{partial_skipped}
use Rattle.struct_pieces.specs.Fields.{struct_at, struct_from, struct_reading, StructReading}
use Rattle.struct_pieces.specs.Lists.{list_from, list_state}
use Rattle.struct_pieces.specs.Processes.{process_struct}
use Rattle.struct_pieces.specs.Spans.{span_struct}

-- sharing the process doesn't change it
abbrev pub partial_shared_process : PartialSharedProcess → Reading Process
partial_shared_process p = struct_from process_struct p.process.slots p.process.step

abbrev pub batch_continues : BatchSlots → PartialBatchField → Reading BatchSlots
batch_continues s (held.Process p) w = partial_shared_process p w >>= λ x. Ok (record s { process = Some x.0 }, x.1)
batch_continues s (held.Spans p) w =
    list_from (struct_at take_span no_span span_from) (λ q. struct_from span_struct q.slots q.step) (list_state p.items.items p.left p.head p.one) w >>=
    λ x. Ok (record s { spans = Some x.0 }, x.1)
batch_continues s (held.SeqNo p) w = i64_at (p.bytes ++ w) >>= λ x. Ok (record s { seq_no = Some x.0 }, x.1)
batch_continues s (held.Skip p) w = partial_skipped s p w

-- how a batch is read that has begun
abbrev pub batch_struct : StructReading BatchSlots PartialBatchField Batch
batch_struct = struct_reading take_batch batch_continues batch_from
