-- A span, read from left to right. Type codes and field ids are written out on purpose: they say those of the code a second time.
use Rattle.std.specs.Prelude.{pos, Some, Result, Ok, ◌&&◌, ◌==◌, if◌then◌else◌}
use Rattle.std.specs.Ordering.{int_eq}
use Rattle.thrift_binary.specs.Reading.{◌>>=◌}
use Rattle.thrift_binary.specs.Fields.{Take, fields_at}
use Rattle.batch_codec.specs.declared.fault.DecodeError.{DecodeError}
use Rattle.batch_codec.specs.declared.fault.StructName.TheVariants as structs
use Rattle.jaeger_model.specs.declared.span.Span.{Span}
use Rattle.batch_codec.specs.declared.span.SpanSlots.{SpanSlots}
use Rattle.batch_codec.specs.Decoding.{Reading, wire, skipped, required, i32_at, i64_at, id_at, text_at}
use Rattle.thrift_binary.specs.Lists.{list_of}
use Rattle.batch_codec.specs.EmptySlots.{no_span}
use Rattle.batch_codec.specs.TagReading.{tag_at}
use Rattle.batch_codec.specs.LogReading.{log_at}
use Rattle.batch_codec.specs.ReferenceReading.{reference_at}

unfoldable pub take_span : Take SpanSlots DecodeError
take_span s c i w =
    if (c == 10) && int_eq i (pos 1) then (id_at w >>= λ x. Ok (record s { trace_low = Some x.0 }, x.1))
    else if (c == 10) && int_eq i (pos 2) then (id_at w >>= λ x. Ok (record s { trace_high = Some x.0 }, x.1))
    else if (c == 10) && int_eq i (pos 3) then (id_at w >>= λ x. Ok (record s { id = Some x.0 }, x.1))
    else if (c == 10) && int_eq i (pos 4) then (id_at w >>= λ x. Ok (record s { parent = Some x.0 }, x.1))
    else if (c == 11) && int_eq i (pos 5) then (text_at w >>= λ x. Ok (record s { operation = Some x.0 }, x.1))
    else if (c == 15) && int_eq i (pos 6) then (list_of wire 12 reference_at w >>= λ x. Ok (record s { references = x.0 }, x.1))
    else if (c == 8) && int_eq i (pos 7) then (i32_at w >>= λ x. Ok (record s { flags = Some x.0 }, x.1))
    else if (c == 10) && int_eq i (pos 8) then (i64_at w >>= λ x. Ok (record s { start = Some x.0 }, x.1))
    else if (c == 10) && int_eq i (pos 9) then (i64_at w >>= λ x. Ok (record s { duration = Some x.0 }, x.1))
    else if (c == 15) && int_eq i (pos 10) then (list_of wire 12 tag_at w >>= λ x. Ok (record s { tags = x.0 }, x.1))
    else if (c == 15) && int_eq i (pos 11) then (list_of wire 12 log_at w >>= λ x. Ok (record s { logs = x.0 }, x.1))
    else skipped s c w

unfoldable pub span_from : SpanSlots → Result Span DecodeError
span_from s = do
  low ← required s.trace_low structs.Span 1
  high ← required s.trace_high structs.Span 2
  id ← required s.id structs.Span 3
  parent ← required s.parent structs.Span 4
  operation ← required s.operation structs.Span 5
  flags ← required s.flags structs.Span 7
  start ← required s.start structs.Span 8
  duration ← required s.duration structs.Span 9
  Ok (record {
    trace = record { high = high; low = low };
    id = record { 0 = id };
    parent = record { 0 = parent };
    operation = operation;
    references = s.references;
    flags = flags;
    start = start;
    duration = duration;
    tags = s.tags;
    logs = s.logs;
  })

unfoldable pub span_at : Reading Span
span_at w = do
  x ← fields_at wire take_span no_span w
  s ← span_from x.0
  Ok (s, x.1)
