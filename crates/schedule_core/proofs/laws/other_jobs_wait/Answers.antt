use Rattle.schedule_core.proofs.Jobs.{others_wait}
use Rattle.schedule_core.proofs.laws.other_jobs_wait.Goals as goal

pub returns : goal.returns
returns c = others_wait
