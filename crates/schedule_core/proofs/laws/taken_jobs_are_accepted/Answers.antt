use Rattle.schedule_core.proofs.Jobs.{taken_accepted}
use Rattle.schedule_core.proofs.laws.taken_jobs_are_accepted.Goals as goal

pub returns : goal.returns
returns c = taken_accepted
