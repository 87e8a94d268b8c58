use Rattle.std.proofs.Common.{arith}
use Rattle.batch_feeder.proofs.FeederSteps.{failed-settled, failed-answers}
use Rattle.batch_feeder.proofs.WaitingBytes.{holds-none}
use Rattle.batch_feeder.proofs.feeder.advance_or_fail.Goals as goal

pub returns-in-Err : goal.returns-in-Err
returns-in-Err c = record {
  feeds =
      record {
        faults = c.in-Err.ensures.0;
        repeats = c.in-Err.ensures.2;
        stays = record { all = λ rest. failed-answers _ _ rest c.fail.ensures; no_want = c.in-Err.ensures.1 };
      };
  settled = failed-settled _ _ c.fail.ensures c.in-Err.ensures.1;
  holds = holds-none _ 0 (λ some. absurd (omega (arith, some))) (omega arith);
}

pub returns-in-Ok : goal.returns-in-Ok
returns-in-Ok c =
    record {
      feeds = c.in-Ok.ensures.0;
      settled = c.in-Ok.ensures.1;
      holds = holds-none _ _ c.wanted_between_fields.ensures.wants c.wanted_between_fields.ensures.one;
    }
