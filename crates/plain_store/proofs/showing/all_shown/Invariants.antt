use Rattle.std.proofs.Common.{map}
use Rattle.plain_store.specs.Events.{event_of, Shows}
use Rattle.plain_store.proofs.showing.all_shown.Given as goal

abbrev pub invariant-loop-event : goal.invariant-loop-event
invariant-loop-event l = Shows l.limit (map event_of l.yielded) l.showing
