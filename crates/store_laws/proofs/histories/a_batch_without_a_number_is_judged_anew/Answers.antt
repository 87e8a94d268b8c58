use Rattle.store_laws.proofs.SentOnce.{unnumbered_anew}
use Rattle.store_laws.proofs.histories.a_batch_without_a_number_is_judged_anew.Goals as goal

pub returns : goal.returns
returns c = unnumbered_anew
