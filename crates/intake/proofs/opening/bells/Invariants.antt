use Rattle.std.proofs.Common.{◌≡◌, length}
use Rattle.intake.proofs.opening.bells.Given as goal

abbrev pub invariant-loop-made : goal.invariant-loop-made
invariant-loop-made l = length l.bells.items ≡ l._made
