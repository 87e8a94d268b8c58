use Rattle.store_laws.proofs.LegalLists.{never_twice}
use Rattle.store_laws.proofs.histories.no_entry_is_repeated.Goals as goal

pub returns : goal.returns
returns c = never_twice
