use Rattle.store_laws.proofs.SentOnce.{limit_anew}
use Rattle.store_laws.proofs.histories.a_limit_is_judged_anew.Goals as goal

pub returns : goal.returns
returns c = limit_anew
