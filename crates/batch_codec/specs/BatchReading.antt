-- A batch, read from left to right. Type codes and field ids are written out on purpose: they say those of the code a second time.
use Rattle.std.specs.Prelude.{ℕ, pos, List, length, Some, Result, Ok, Err, ◌&&◌, ◌==◌, if◌then◌else◌}
use Rattle.std.specs.Ordering.{int_eq}
use Rattle.thrift_binary.specs.Reading.{◌>>=◌}
use Rattle.thrift_binary.specs.Fields.{Take, fields_at}
use Rattle.batch_codec.specs.declared.fault.DecodeError.{DecodeError}
use Rattle.batch_codec.specs.declared.fault.StructName.TheVariants as structs
use Rattle.jaeger_model.specs.declared.batch.Batch.{Batch}
use Rattle.batch_codec.specs.declared.fault.DecodeError.TheVariants.{Trailing}
use Rattle.batch_codec.specs.declared.batch.BatchSlots.{BatchSlots}
use Rattle.batch_codec.specs.Decoding.{Reading, wire, skipped, required, i64_at}
use Rattle.thrift_binary.specs.Lists.{list_of}
use Rattle.batch_codec.specs.EmptySlots.{no_batch}
use Rattle.batch_codec.specs.ProcessReading.{process_at}
use Rattle.batch_codec.specs.SpanReading.{span_at}

unfoldable pub take_batch : Take BatchSlots DecodeError
take_batch s c i w =
    if (c == 12) && int_eq i (pos 1) then (process_at w >>= λ x. Ok (record s { process = Some x.0 }, x.1))
    else if (c == 15) && int_eq i (pos 2) then (list_of wire 12 span_at w >>= λ x. Ok (record s { spans = Some x.0 }, x.1))
    else if (c == 10) && int_eq i (pos 3) then (i64_at w >>= λ x. Ok (record s { seq_no = Some x.0 }, x.1))
    else skipped s c w

unfoldable pub batch_from : BatchSlots → Result Batch DecodeError
batch_from s = do
  process ← required s.process structs.Batch 1
  spans ← required s.spans structs.Batch 2
  Ok (record { process = process; spans = spans; seq_no = s.seq_no })

unfoldable pub batch_at : Reading Batch
batch_at w = do
  x ← fields_at wire take_batch no_batch w
  b ← batch_from x.0
  Ok (b, x.1)

-- the end of the bytes, after a batch
abbrev pub at_end : Batch × List ℕ → Result Batch DecodeError
at_end x = if length x.1 == 0 then Ok x.0 else Err Trailing

-- the result of decoding: the batch that takes up all of the bytes, or the first fault
unfoldable pub decoded : List ℕ → Result Batch DecodeError
decoded w = batch_at w >>= at_end
