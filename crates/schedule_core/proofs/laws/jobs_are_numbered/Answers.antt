use Rattle.schedule_core.proofs.Jobs.{jobs_rise}
use Rattle.schedule_core.proofs.laws.jobs_are_numbered.Goals as goal

pub returns : goal.returns
returns c = jobs_rise
