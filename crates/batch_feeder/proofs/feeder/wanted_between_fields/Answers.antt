use Rattle.std.proofs.Common.{arith}
use Rattle.batch_feeder.proofs.WaitingBytes.{reading-between_fields}
use Rattle.batch_feeder.proofs.feeder.wanted_between_fields.Goals as goal

pub returns-then-is_between : goal.returns-then-is_between
returns-then-is_between c =
    record { wants = λ some w part. reading-between_fields _ _ _ c.in-Reading.is w (c.is_between.ensures.wants c.if-is_between.true w part); one = omega arith }
