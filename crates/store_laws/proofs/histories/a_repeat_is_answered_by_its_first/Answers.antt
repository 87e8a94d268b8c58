use Rattle.store_laws.proofs.SentOnce.{repeat_is_answered}
use Rattle.store_laws.proofs.histories.a_repeat_is_answered_by_its_first.Goals as goal

pub returns : goal.returns
returns c = repeat_is_answered
