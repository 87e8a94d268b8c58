-- A process, read from left to right. Type codes and field ids are written out on purpose: they say those of the code a second time.
use Rattle.std.specs.Prelude.{pos, Some, Result, Ok, ◌&&◌, ◌==◌, if◌then◌else◌}
use Rattle.std.specs.Ordering.{int_eq}
use Rattle.thrift_binary.specs.Reading.{◌>>=◌}
use Rattle.thrift_binary.specs.Fields.{Take, fields_at}
use Rattle.batch_codec.specs.declared.fault.DecodeError.{DecodeError}
use Rattle.batch_codec.specs.declared.fault.StructName.TheVariants as structs
use Rattle.jaeger_model.specs.declared.batch.Process.{Process}
use Rattle.batch_codec.specs.declared.process.ProcessSlots.{ProcessSlots}
use Rattle.batch_codec.specs.Decoding.{Reading, wire, skipped, required, text_at}
use Rattle.thrift_binary.specs.Lists.{list_of}
use Rattle.batch_codec.specs.EmptySlots.{no_process}
use Rattle.batch_codec.specs.TagReading.{tag_at}

unfoldable pub take_process : Take ProcessSlots DecodeError
take_process s c i w =
    if (c == 11) && int_eq i (pos 1) then (text_at w >>= λ x. Ok (record s { service = Some x.0 }, x.1))
    else if (c == 15) && int_eq i (pos 2) then (list_of wire 12 tag_at w >>= λ x. Ok (record s { tags = x.0 }, x.1))
    else skipped s c w

unfoldable pub process_from : ProcessSlots → Result Process DecodeError
process_from s = do
  service ← required s.service structs.Process 1
  Ok (record { service = service; tags = s.tags })

unfoldable pub process_at : Reading Process
process_at w = do
  x ← fields_at wire take_process no_process w
  p ← process_from x.0
  Ok (p, x.1)
