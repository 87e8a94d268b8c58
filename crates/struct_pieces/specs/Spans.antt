-- A partially received span.
use Rattle.std.specs.Prelude.{◌++◌, Some, Ok}
use Rattle.thrift_binary.specs.Reading.{◌>>=◌}
use Rattle.batch_codec.specs.declared.span.SpanSlots.{SpanSlots}
use Rattle.batch_codec.specs.Decoding.{Reading, i32_at, i64_at, id_at}
use Rattle.batch_codec.specs.EmptySlots.{no_tag, no_log, no_reference}
use Rattle.batch_codec.specs.TagReading.{take_tag, tag_from}
use Rattle.batch_codec.specs.LogReading.{take_log, log_from}
use Rattle.batch_codec.specs.ReferenceReading.{take_reference, reference_from}
use Rattle.jaeger_model.specs.declared.span.Span.{Span}
use Rattle.batch_codec.specs.SpanReading.{take_span, span_from}
use Rattle.struct_pieces.specs.declared.span.PartialSpanField.{PartialSpanField}
use Rattle.struct_pieces.specs.declared.span.PartialSpanField.TheVariants as held
use Rattle.value_pieces.specs.Values.{partial_text, partial_skipped}
use Rattle.struct_pieces.specs.Fields.{struct_at, struct_from, struct_reading, StructReading}
use Rattle.struct_pieces.specs.Lists.{list_from, list_state}
use Rattle.struct_pieces.specs.Tags.{tag_struct}
use Rattle.struct_pieces.specs.Logs.{log_struct}
use Rattle.struct_pieces.specs.References.{reference_struct}

abbrev pub span_continues : SpanSlots → PartialSpanField → Reading SpanSlots
span_continues s (held.TraceLow p) w = id_at (p.bytes ++ w) >>= λ x. Ok (record s { trace_low = Some x.0 }, x.1)
span_continues s (held.TraceHigh p) w = id_at (p.bytes ++ w) >>= λ x. Ok (record s { trace_high = Some x.0 }, x.1)
span_continues s (held.Id p) w = id_at (p.bytes ++ w) >>= λ x. Ok (record s { id = Some x.0 }, x.1)
span_continues s (held.Parent p) w = id_at (p.bytes ++ w) >>= λ x. Ok (record s { parent = Some x.0 }, x.1)
span_continues s (held.Operation p) w = partial_text p w >>= λ x. Ok (record s { operation = Some x.0 }, x.1)
span_continues s (held.References p) w =
    list_from (struct_at take_reference no_reference reference_from) (λ q. struct_from reference_struct q.slots q.step)
    (list_state p.items.items p.left p.head p.one) w >>=
    λ x. Ok (record s { references = x.0 }, x.1)
span_continues s (held.Flags p) w = i32_at (p.bytes ++ w) >>= λ x. Ok (record s { flags = Some x.0 }, x.1)
span_continues s (held.Start p) w = i64_at (p.bytes ++ w) >>= λ x. Ok (record s { start = Some x.0 }, x.1)
span_continues s (held.Duration p) w = i64_at (p.bytes ++ w) >>= λ x. Ok (record s { duration = Some x.0 }, x.1)
span_continues s (held.Tags p) w =
    list_from (struct_at take_tag no_tag tag_from) (λ q. struct_from tag_struct q.slots q.step) (list_state p.items.items p.left p.head p.one) w >>=
    λ x. Ok (record s { tags = x.0 }, x.1)
span_continues s (held.Logs p) w =
    list_from (struct_at take_log no_log log_from) (λ q. struct_from log_struct q.slots q.step) (list_state p.items.items p.left p.head p.one) w >>=
    λ x. Ok (record s { logs = x.0 }, x.1)
span_continues s (held.Skip p) w = partial_skipped s p w

-- how a span is read that has begun
abbrev pub span_struct : StructReading SpanSlots PartialSpanField Span
span_struct = struct_reading take_span span_continues span_from
