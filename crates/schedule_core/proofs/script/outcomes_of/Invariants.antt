use Rattle.std.specs.Prelude.{◌≡◌, ◌⊎◌, Some, None}
use Rattle.schedule_core.specs.Machine.{Machine}
use Rattle.schedule_core.proofs.BoundedSteps.{Ran}
use Rattle.schedule_core.proofs.script.outcomes_of.Given as goal

abbrev pub invariant-loop-step : goal.invariant-loop-step
invariant-loop-step l = (m : Machine) → (l.fn.world ≡ Some m) ⊎ (l.fn.world ≡ None) → Ran m l.yielded l.outcomes.items l.world
