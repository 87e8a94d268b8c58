use Rattle.service_index.proofs.Arrivals.{services_listed, names_listed, operations_listed}
use Rattle.service_index.proofs.laws.listed_answers.Goals as goal

pub returns-clause-services : goal.returns-clause-services
returns-clause-services c = services_listed

pub returns-clause-names : goal.returns-clause-names
returns-clause-names c = names_listed

pub returns-clause-operations : goal.returns-clause-operations
returns-clause-operations c = operations_listed
