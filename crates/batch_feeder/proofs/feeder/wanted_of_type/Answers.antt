use Rattle.batch_feeder.proofs.WaitingBytes.{quiet-type}
use Rattle.batch_feeder.proofs.feeder.wanted_of_type.Goals as goal

pub returns : goal.returns
returns c = record { quiet = rw c.min_bytes.ensures.table (quiet-type _ c.if-code-eq-STOP.false) }
