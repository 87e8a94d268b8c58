-- A partially received tag.
use Rattle.std.specs.Prelude.{◌++◌, Some, Ok}
use Rattle.thrift_binary.specs.Reading.{◌>>=◌}
use Rattle.batch_codec.specs.declared.tag.TagSlots.{TagSlots}
use Rattle.batch_codec.specs.Decoding.{Reading, double_at, i64_at}
use Rattle.batch_codec.specs.TagReading.{type_at, take_tag, tag_from}
use Rattle.jaeger_model.specs.declared.tag.Tag.{Tag}
use Rattle.struct_pieces.specs.Fields.{StructReading, struct_reading}
use Rattle.struct_pieces.specs.declared.tag.PartialTagField.{PartialTagField}
use Rattle.struct_pieces.specs.declared.tag.PartialTagField.TheVariants as held
use Rattle.value_pieces.specs.Values.{bool_from, partial_text, partial_binary, partial_skipped}

-- the value that has begun, and how it changes the fields so far
abbrev pub tag_continues : TagSlots → PartialTagField → Reading TagSlots
tag_continues s (held.Key p) w = partial_text p w >>= λ x. Ok (record s { key = Some x.0 }, x.1)
tag_continues s (held.Kind p) w = type_at (p.bytes ++ w) >>= λ x. Ok (record s { kind = Some x.0 }, x.1)
tag_continues s (held.Text p) w = partial_text p w >>= λ x. Ok (record s { text = x.0 }, x.1)
tag_continues s (held.Double p) w = double_at (p.bytes ++ w) >>= λ x. Ok (record s { double = x.0 }, x.1)
tag_continues s (held.Boolean p) w = bool_from p w >>= λ x. Ok (record s { boolean = x.0 }, x.1)
tag_continues s (held.Long p) w = i64_at (p.bytes ++ w) >>= λ x. Ok (record s { long = x.0 }, x.1)
tag_continues s (held.Binary p) w = partial_binary p w >>= λ x. Ok (record s { binary = x.0 }, x.1)
tag_continues s (held.Skip p) w = partial_skipped s p w

-- how a tag is read that has begun
abbrev pub tag_struct : StructReading TagSlots PartialTagField Tag
tag_struct = struct_reading take_tag tag_continues tag_from
