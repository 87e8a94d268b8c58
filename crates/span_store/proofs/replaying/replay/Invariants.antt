use Rattle.std.proofs.Common.{◌≡◌, map, take}
use Rattle.std.specs.Arc.{arc_value}
use Rattle.trace_model.specs.Refusals.{history_of}
use Rattle.span_store.proofs.replaying.replay.Given as goal

abbrev pub invariant-loop-entry : goal.invariant-loop-entry
invariant-loop-entry l = l.store ≡ record { limits = l.fn.limits; entries = history_of l.fn.limits (map arc_value (take l.entry-index l.entries)) }
