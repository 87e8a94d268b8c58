use Rattle.std.proofs.Common.{arith}
use Rattle.batch_feeder.proofs.WaitingBytes.{gave-up, wanted-sound}
use Rattle.batch_feeder.proofs.feeder.Feeder.buffer_byte.Goals as goal

pub returns-in-Err : goal.returns-in-Err
returns-in-Err c =
    record { feeds = rw c.fail.ensures.fails (gave-up _ _ _ (wanted-sound _ _ _ c.args.self.now.holds (omega (arith, c.requires))) c.fail.ensures.stays) }
