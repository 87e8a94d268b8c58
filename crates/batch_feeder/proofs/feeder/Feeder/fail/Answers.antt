use Rattle.std.proofs.Common.{arith}
use Rattle.batch_feeder.proofs.FeederSteps.{failed-settled, failed-answers}
use Rattle.batch_feeder.proofs.WaitingBytes.{holds-none}
use Rattle.batch_feeder.proofs.feeder.Feeder.fail.Goals as goal

pub invariant_of-self : goal.invariant_of-self
invariant_of-self c =
    record {
      settled = failed-settled _ _ c.fail.ensures c.requires;
      holds = rw c.clear.ensures.items (holds-none _ 0 (λ some. absurd (omega (arith, some))) (omega arith));
    }

pub returns-clause-stays : goal.returns-clause-stays
returns-clause-stays c = λ w. failed-answers _ _ _ c.fail.ensures
