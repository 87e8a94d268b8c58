use Rattle.store_laws.proofs.SentOnce.{never_sent_twice}
use Rattle.store_laws.proofs.histories.no_batch_with_a_number_is_repeated.Goals as goal

pub returns : goal.returns
returns c = never_sent_twice
