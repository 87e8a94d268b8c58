-- A log of a span, read from left to right. Type codes and field ids are written out on purpose: they say those of the code a second time.
use Rattle.std.specs.Prelude.{pos, Some, Result, Ok, ◌&&◌, ◌==◌, if◌then◌else◌}
use Rattle.std.specs.Ordering.{int_eq}
use Rattle.thrift_binary.specs.Reading.{◌>>=◌}
use Rattle.thrift_binary.specs.Fields.{Take, fields_at}
use Rattle.batch_codec.specs.declared.fault.DecodeError.{DecodeError}
use Rattle.batch_codec.specs.declared.fault.StructName.TheVariants as structs
use Rattle.jaeger_model.specs.declared.span.Log.{Log}
use Rattle.batch_codec.specs.declared.log.LogSlots.{LogSlots}
use Rattle.batch_codec.specs.Decoding.{Reading, wire, skipped, required, i64_at}
use Rattle.thrift_binary.specs.Lists.{list_of}
use Rattle.batch_codec.specs.EmptySlots.{no_log}
use Rattle.batch_codec.specs.TagReading.{tag_at}

unfoldable pub take_log : Take LogSlots DecodeError
take_log s c i w =
    if (c == 10) && int_eq i (pos 1) then (i64_at w >>= λ x. Ok (record s { at = Some x.0 }, x.1))
    else if (c == 15) && int_eq i (pos 2) then (list_of wire 12 tag_at w >>= λ x. Ok (record s { fields = Some x.0 }, x.1))
    else skipped s c w

unfoldable pub log_from : LogSlots → Result Log DecodeError
log_from s = do
  at ← required s.at structs.Log 1
  fields ← required s.fields structs.Log 2
  Ok (record { at = at; fields = fields })

unfoldable pub log_at : Reading Log
log_at w = do
  x ← fields_at wire take_log no_log w
  l ← log_from x.0
  Ok (l, x.1)
