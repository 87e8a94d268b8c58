use Rattle.std.proofs.Common.{◌≡◌, map}
use Rattle.trace_model.specs.Events.{without_limits}
use Rattle.plain_store.specs.Events.{event_of}
use Rattle.plain_store.proofs.plain.all_arrivals.Given as goal

-- the spans of the events so far
abbrev pub invariant-loop-event : goal.invariant-loop-event
invariant-loop-event l = l.spans.items ≡ without_limits (map event_of l.yielded)
