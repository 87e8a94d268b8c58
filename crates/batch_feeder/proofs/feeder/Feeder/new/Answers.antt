use Rattle.std.proofs.Common.{arith}
use Rattle.batch_feeder.proofs.FeederSteps.{start-settled, start-decodes}
use Rattle.batch_feeder.proofs.WaitingBytes.{holds-none}
use Rattle.batch_feeder.proofs.feeder.Feeder.new.Goals as goal

pub invariant_of-result : goal.invariant_of-result
invariant_of-result c = record {
  settled = start-settled _ _ c.new.ensures;
  holds = rw c.new-2.ensures.items (holds-none _ 0 (λ some. absurd (omega (arith, some))) (omega arith));
}

pub returns : goal.returns
returns c = record { decodes = λ w. rw c.new-2.ensures.items (start-decodes _ _ c.new.ensures w) }
