use Rattle.store_laws.proofs.SentOnce.{damaged_is_refused}
use Rattle.store_laws.proofs.histories.a_damaged_repeat_is_refused.Goals as goal

pub returns : goal.returns
returns c = damaged_is_refused
