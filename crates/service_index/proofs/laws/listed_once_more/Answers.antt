use Rattle.service_index.proofs.Arrivals.{listed_more}
use Rattle.service_index.proofs.laws.listed_once_more.Goals as goal

pub returns-clause-more : goal.returns-clause-more
returns-clause-more c = listed_more
