use Rattle.schedule_core.proofs.RunFacts.{every_run}
use Rattle.schedule_core.proofs.laws.a_reader_stays_where_it_entered.Goals as goal

pub returns : goal.returns
returns c = λ limits steps. (every_run limits steps).steady
