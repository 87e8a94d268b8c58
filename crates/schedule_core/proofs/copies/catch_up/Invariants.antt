use Rattle.std.proofs.Common.{◌≡◌, ◌++◌, map, drop}
use Rattle.std.specs.Arc.{arc_value}
use Rattle.schedule_core.proofs.copies.catch_up.Given as goal

abbrev pub invariant-loop-entry : goal.invariant-loop-entry
invariant-loop-entry l =
    (l.store.limits ≡ l.initial.store.limits) × (l.store.entries ++ map arc_value (drop l.entry-index (drop l.held l.entries)) ≡ map arc_value l.entries)
