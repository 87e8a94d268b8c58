use Rattle.intake.proofs.Steps.{takes_in}
use Rattle.intake.proofs.inbox.Inbox.take_in.Goals as goal

pub absorb-requires-clause-rule : goal.absorb-requires-clause-rule
absorb-requires-clause-rule g c = takes_in _ _ _ _ c.self.invariant.1 c.self.invariant.2 c.requires.seat.0 c.requires.seat.1
