use Rattle.store_laws.proofs.SharedCalls.{one_history}
use Rattle.store_laws.proofs.shared_store.calls_have_one_history.Goals as goal

pub returns : goal.returns
returns c = one_history
