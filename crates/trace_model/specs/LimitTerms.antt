-- Terms of the laws of limits.
use Rattle.std.specs.Prelude.{Bool, true, false, ◌==◌}
use Rattle.jaeger_model.specs.declared.ids.TraceId.{TraceId}
use Rattle.jaeger_model.specs.declared.placed.Placed.{Placed}
use Rattle.jaeger_model.specs.Parents.{same_trace}
use Rattle.trace_model.specs.Events.{Event, came, limited}
use Rattle.trace_model.specs.ShownSpans.{trace_of}

-- no limit is set, or the limit 0, which keeps all
abbrev pub limits_none : Event Placed → Bool
limits_none (came p) = true
limits_none (limited m) = m == 0

-- a span of the trace arrives
abbrev pub comes_for : TraceId → Event Placed → Bool
comes_for t (came p) = same_trace t (trace_of p)
comes_for t (limited m) = false
