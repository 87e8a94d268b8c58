use Rattle.store_laws.proofs.SentOnce.{stands_once}
use Rattle.store_laws.proofs.histories.an_acknowledged_batch_is_there_once.Goals as goal

pub returns : goal.returns
returns c = stands_once
