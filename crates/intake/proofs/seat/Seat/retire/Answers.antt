use Rattle.std.proofs.Common.{rules}
use Rattle.intake.proofs.Steps.{resigns}
use Rattle.intake.proofs.seat.Seat.retire.Goals as goal

pub another-requires-clause-rule : goal.another-requires-clause-rule
another-requires-clause-rule g c = resigns _ _ (search rules) c.self.invariant.1
