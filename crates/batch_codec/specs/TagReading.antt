-- A tag, read from left to right. Type codes and field ids are written out on purpose: they say those of the code a second time.
use Rattle.std.specs.Prelude.{ℤ, pos, Some, Result, Ok, Err, ◌&&◌, ◌==◌, if◌then◌else◌}
use Rattle.std.specs.Ordering.{int_eq}
use Rattle.thrift_binary.specs.Reading.{◌>>=◌}
use Rattle.thrift_binary.specs.Fields.{Take, fields_at}
use Rattle.batch_codec.specs.declared.fault.DecodeError.{DecodeError}
use Rattle.batch_codec.specs.declared.fault.StructName.TheVariants as structs
use Rattle.jaeger_model.specs.declared.tag.Tag.{Tag}
use Rattle.batch_codec.specs.declared.fault.DecodeError.TheVariants.{BadEnum}
use Rattle.batch_codec.specs.declared.tag.TagType.{TagType}
use Rattle.batch_codec.specs.declared.tag.TagType.TheVariants as types
use Rattle.batch_codec.specs.declared.tag.TagSlots.{TagSlots}
use Rattle.batch_codec.specs.Decoding.{Reading, wire, skipped, required, bool_at, double_at, i32_at, i64_at, text_at, binary_at}
use Rattle.batch_codec.specs.EmptySlots.{no_tag, value_named}

-- the type that has this number in `jaeger.thrift`
unfoldable pub type_of_number : ℤ → Result TagType DecodeError
type_of_number n =
    if int_eq n (pos 0) then Ok types.Text
    else if int_eq n (pos 1) then Ok types.Double
    else if int_eq n (pos 2) then Ok types.Bool
    else if int_eq n (pos 3) then Ok types.Long
    else if int_eq n (pos 4) then Ok types.Binary
    else Err BadEnum

unfoldable pub type_at : Reading TagType
type_at w = do
  n ← i32_at w
  kind ← type_of_number n.0
  Ok (kind, n.1)

unfoldable pub take_tag : Take TagSlots DecodeError
take_tag s c i w =
    if (c == 11) && int_eq i (pos 1) then (text_at w >>= λ x. Ok (record s { key = Some x.0 }, x.1))
    else if (c == 8) && int_eq i (pos 2) then (type_at w >>= λ x. Ok (record s { kind = Some x.0 }, x.1))
    else if (c == 11) && int_eq i (pos 3) then (text_at w >>= λ x. Ok (record s { text = x.0 }, x.1))
    else if (c == 4) && int_eq i (pos 4) then (double_at w >>= λ x. Ok (record s { double = x.0 }, x.1))
    else if (c == 2) && int_eq i (pos 5) then (bool_at w >>= λ x. Ok (record s { boolean = x.0 }, x.1))
    else if (c == 10) && int_eq i (pos 6) then (i64_at w >>= λ x. Ok (record s { long = x.0 }, x.1))
    else if (c == 11) && int_eq i (pos 7) then (binary_at w >>= λ x. Ok (record s { binary = x.0 }, x.1))
    else skipped s c w

unfoldable pub tag_from : TagSlots → Result Tag DecodeError
tag_from s = do
  key ← required s.key structs.Tag 1
  kind ← required s.kind structs.Tag 2
  Ok (record { key = key; value = value_named kind s })

unfoldable pub tag_at : Reading Tag
tag_at w = do
  x ← fields_at wire take_tag no_tag w
  t ← tag_from x.0
  Ok (t, x.1)
