use Rattle.batch_feeder.proofs.WaitingBytes.{quiet-string}
use Rattle.batch_feeder.proofs.feeder.wanted_of_string.Goals as goal

pub returns-in-Some : goal.returns-in-Some
returns-in-Some c = record { quiet = λ a b v few. quiet-string a b _ _ (c.size_of.ensures.reads _ c.in-Some.is) v few }
