use Rattle.std.proofs.Common.{◌≡◌, map}
use Rattle.trace_model.specs.Events.{came}
use Rattle.plain_store.specs.Events.{event_of}
use Rattle.plain_store.proofs.plain.arrival_events.Given as goal

abbrev pub invariant-loop-placed : goal.invariant-loop-placed
invariant-loop-placed l = map event_of l.happened.items ≡ map came l.yielded
