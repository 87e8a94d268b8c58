-- A partially received reference to a span.
use Rattle.std.specs.Prelude.{◌++◌, Some, Ok}
use Rattle.thrift_binary.specs.Reading.{◌>>=◌}
use Rattle.batch_codec.specs.declared.reference.ReferenceSlots.{ReferenceSlots}
use Rattle.batch_codec.specs.Decoding.{Reading, id_at}
use Rattle.batch_codec.specs.ReferenceReading.{kind_at, take_reference, reference_from}
use Rattle.jaeger_model.specs.declared.span.SpanRef.{SpanRef}
use Rattle.struct_pieces.specs.Fields.{StructReading, struct_reading}
use Rattle.struct_pieces.specs.declared.reference.PartialReferenceField.{PartialReferenceField}
use Rattle.struct_pieces.specs.declared.reference.PartialReferenceField.TheVariants as held
use Rattle.value_pieces.specs.Values.{partial_skipped}

abbrev pub reference_continues : ReferenceSlots → PartialReferenceField → Reading ReferenceSlots
reference_continues s (held.Kind p) w = kind_at (p.bytes ++ w) >>= λ x. Ok (record s { kind = Some x.0 }, x.1)
reference_continues s (held.TraceLow p) w = id_at (p.bytes ++ w) >>= λ x. Ok (record s { trace_low = Some x.0 }, x.1)
reference_continues s (held.TraceHigh p) w = id_at (p.bytes ++ w) >>= λ x. Ok (record s { trace_high = Some x.0 }, x.1)
reference_continues s (held.Id p) w = id_at (p.bytes ++ w) >>= λ x. Ok (record s { id = Some x.0 }, x.1)
reference_continues s (held.Skip p) w = partial_skipped s p w

-- how a reference is read that has begun
abbrev pub reference_struct : StructReading ReferenceSlots PartialReferenceField SpanRef
reference_struct = struct_reading take_reference reference_continues reference_from
