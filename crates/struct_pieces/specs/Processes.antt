-- A partially received process.
use Rattle.std.specs.Prelude.{Some, Ok}
use Rattle.thrift_binary.specs.Reading.{◌>>=◌}
use Rattle.batch_codec.specs.declared.process.ProcessSlots.{ProcessSlots}
use Rattle.batch_codec.specs.Decoding.{Reading}
use Rattle.batch_codec.specs.EmptySlots.{no_tag}
use Rattle.batch_codec.specs.TagReading.{take_tag, tag_from}
use Rattle.jaeger_model.specs.declared.batch.Process.{Process}
use Rattle.batch_codec.specs.ProcessReading.{take_process, process_from}
use Rattle.struct_pieces.specs.declared.process.PartialProcessField.{PartialProcessField}
use Rattle.struct_pieces.specs.declared.process.PartialProcessField.TheVariants as held
use Rattle.value_pieces.specs.Values.{partial_text, partial_skipped}
use Rattle.struct_pieces.specs.Fields.{struct_at, struct_from, struct_reading, StructReading}
use Rattle.struct_pieces.specs.Lists.{list_from, list_state}
use Rattle.struct_pieces.specs.Tags.{tag_struct}

abbrev pub process_continues : ProcessSlots → PartialProcessField → Reading ProcessSlots
process_continues s (held.Service p) w = partial_text p w >>= λ x. Ok (record s { service = Some x.0 }, x.1)
process_continues s (held.Tags p) w =
    list_from (struct_at take_tag no_tag tag_from) (λ q. struct_from tag_struct q.slots q.step) (list_state p.items.items p.left p.head p.one) w >>=
    λ x. Ok (record s { tags = x.0 }, x.1)
process_continues s (held.Skip p) w = partial_skipped s p w

-- how a process is read that has begun
abbrev pub process_struct : StructReading ProcessSlots PartialProcessField Process
process_struct = struct_reading take_process process_continues process_from
