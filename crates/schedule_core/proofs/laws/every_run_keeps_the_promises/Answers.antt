use Rattle.schedule_core.proofs.RunFacts.{every_run}
use Rattle.schedule_core.proofs.laws.every_run_keeps_the_promises.Goals as goal

pub returns : goal.returns
returns c = every_run
