-- The conditions of a search on a span alone.
use Rattle.std.specs.Prelude.{Bool, ◌&&◌, ◌||◌, []}
use Rattle.jaeger_model.specs.declared.placed.Placed.{Placed}
use Rattle.jaeger_model.specs.Texts.{same_text}
use Rattle.trace_model.specs.declared.query.Find.{Find}
use Rattle.trace_model.specs.Searching.{is_timed}

-- the operation is the requested one; an empty one matches all
abbrev pub has_operation : Find → Placed → Bool
has_operation q p = same_text q.operation [] || same_text q.operation p.span.operation

-- operation, duration and start are the requested ones
abbrev pub meets_span_conditions : Find → Placed → Bool
meets_span_conditions q p = has_operation q p && is_timed q p
