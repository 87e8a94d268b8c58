use Rattle.service_index.proofs.MoreNames.{indexed_extends, listing_extends}
use Rattle.service_index.proofs.laws.more_names.Goals as goal

pub returns-clause-indexed : goal.returns-clause-indexed
returns-clause-indexed c names more index e h = indexed_extends names more index e h

pub returns-clause-listed : goal.returns-clause-listed
returns-clause-listed c names more index e h = listing_extends names more index e h
