use Rattle.intake.proofs.Steps.{waits}
use Rattle.intake.proofs.inbox.Inbox.learn_queue.Goals as goal

pub learn_as-requires-clause-rule : goal.learn_as-requires-clause-rule
learn_as-requires-clause-rule g c = waits _ _ c.self.invariant.1
