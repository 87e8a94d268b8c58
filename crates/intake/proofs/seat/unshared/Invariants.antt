use Rattle.std.specs.Prelude.{◌≡◌}
use Rattle.std.specs.Arc.{arc_value}
use Rattle.intake.proofs.seat.unshared.Given as goal

abbrev pub invariant-loop : goal.invariant-loop
invariant-loop g l = arc_value l.shared ≡ arc_value l.fn.entry
