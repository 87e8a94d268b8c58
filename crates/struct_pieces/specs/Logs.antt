-- A partially received log.
use Rattle.std.specs.Prelude.{◌++◌, Some, Ok}
use Rattle.thrift_binary.specs.Reading.{◌>>=◌}
use Rattle.batch_codec.specs.declared.log.LogSlots.{LogSlots}
use Rattle.batch_codec.specs.Decoding.{Reading, i64_at}
use Rattle.batch_codec.specs.EmptySlots.{no_tag}
use Rattle.batch_codec.specs.TagReading.{take_tag, tag_from}
use Rattle.jaeger_model.specs.declared.span.Log.{Log}
use Rattle.batch_codec.specs.LogReading.{take_log, log_from}
use Rattle.struct_pieces.specs.declared.log.PartialLogField.{PartialLogField}
use Rattle.struct_pieces.specs.declared.log.PartialLogField.TheVariants as held
use Rattle.value_pieces.specs.Values.{partial_skipped}
use Rattle.struct_pieces.specs.Fields.{struct_at, struct_from, struct_reading, StructReading}
use Rattle.struct_pieces.specs.Lists.{list_from, list_state}
use Rattle.struct_pieces.specs.Tags.{tag_struct}

abbrev pub log_continues : LogSlots → PartialLogField → Reading LogSlots
log_continues s (held.At p) w = i64_at (p.bytes ++ w) >>= λ x. Ok (record s { at = Some x.0 }, x.1)
log_continues s (held.Fields p) w =
    list_from (struct_at take_tag no_tag tag_from) (λ q. struct_from tag_struct q.slots q.step) (list_state p.items.items p.left p.head p.one) w >>=
    λ x. Ok (record s { fields = Some x.0 }, x.1)
log_continues s (held.Skip p) w = partial_skipped s p w

-- how a log is read that has begun
abbrev pub log_struct : StructReading LogSlots PartialLogField Log
log_struct = struct_reading take_log log_continues log_from
