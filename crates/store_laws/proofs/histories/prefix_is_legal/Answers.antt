use Rattle.store_laws.proofs.LegalLists.{legal_prefix}
use Rattle.store_laws.proofs.histories.prefix_is_legal.Goals as goal

pub returns : goal.returns
returns c = legal_prefix
