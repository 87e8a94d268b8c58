use Rattle.std.proofs.Common.{◌≡◌, map, ◌++◌, drop}
use Rattle.std.specs.Arc.{arc_value}
use Rattle.trace_model.specs.Histories.{events}
use Rattle.plain_store.specs.Events.{event_of}
use Rattle.plain_store.proofs.plain.all_events.Given as goal

-- the events so far, followed by those of the remaining entries, are all events
abbrev pub invariant-loop-entry : goal.invariant-loop-entry
invariant-loop-entry l = map event_of l.all.items ++ events (map arc_value (drop l.entry-index l.entries)) ≡ events (map arc_value l.entries)
