use Rattle.std.proofs.Common.{arith}
use Rattle.batch_feeder.proofs.WaitingBytes.{empty-quiet}
use Rattle.batch_feeder.proofs.feeder.wanted.Goals as goal

pub returns-in-empty : goal.returns-in-empty
returns-in-empty c = record { quiet = empty-quiet _ (omega (arith, c.in-empty.len_below)) }
