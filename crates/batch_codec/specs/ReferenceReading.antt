-- A reference to a span, read from left to right. Type codes and field ids are written out on purpose: they say those of the code a second time.
use Rattle.std.specs.Prelude.{ℤ, pos, Some, Result, Ok, Err, ◌&&◌, ◌==◌, if◌then◌else◌}
use Rattle.std.specs.Ordering.{int_eq}
use Rattle.thrift_binary.specs.Reading.{◌>>=◌}
use Rattle.thrift_binary.specs.Fields.{Take, fields_at}
use Rattle.batch_codec.specs.declared.fault.DecodeError.{DecodeError}
use Rattle.batch_codec.specs.declared.fault.StructName.TheVariants as structs
use Rattle.jaeger_model.specs.declared.span.RefKind.{RefKind}
use Rattle.jaeger_model.specs.declared.span.RefKind.TheVariants.{ChildOf, FollowsFrom}
use Rattle.jaeger_model.specs.declared.span.SpanRef.{SpanRef}
use Rattle.batch_codec.specs.declared.fault.DecodeError.TheVariants.{BadEnum}
use Rattle.batch_codec.specs.declared.reference.ReferenceSlots.{ReferenceSlots}
use Rattle.batch_codec.specs.Decoding.{Reading, wire, skipped, required, i32_at, id_at}
use Rattle.batch_codec.specs.EmptySlots.{no_reference}

-- the kind that has this number in `jaeger.thrift`
unfoldable pub kind_of_number : ℤ → Result RefKind DecodeError
kind_of_number n =
    if int_eq n (pos 0) then Ok ChildOf
    else if int_eq n (pos 1) then Ok FollowsFrom
    else Err BadEnum

unfoldable pub kind_at : Reading RefKind
kind_at w = do
  n ← i32_at w
  kind ← kind_of_number n.0
  Ok (kind, n.1)

unfoldable pub take_reference : Take ReferenceSlots DecodeError
take_reference s c i w =
    if (c == 8) && int_eq i (pos 1) then (kind_at w >>= λ x. Ok (record s { kind = Some x.0 }, x.1))
    else if (c == 10) && int_eq i (pos 2) then (id_at w >>= λ x. Ok (record s { trace_low = Some x.0 }, x.1))
    else if (c == 10) && int_eq i (pos 3) then (id_at w >>= λ x. Ok (record s { trace_high = Some x.0 }, x.1))
    else if (c == 10) && int_eq i (pos 4) then (id_at w >>= λ x. Ok (record s { id = Some x.0 }, x.1))
    else skipped s c w

unfoldable pub reference_from : ReferenceSlots → Result SpanRef DecodeError
reference_from s = do
  kind ← required s.kind structs.SpanRef 1
  low ← required s.trace_low structs.SpanRef 2
  high ← required s.trace_high structs.SpanRef 3
  id ← required s.id structs.SpanRef 4
  Ok (record { kind = kind; trace = record { high = high; low = low }; id = record { 0 = id } })

unfoldable pub reference_at : Reading SpanRef
reference_at w = do
  x ← fields_at wire take_reference no_reference w
  r ← reference_from x.0
  Ok (r, x.1)
