use Rattle.schedule_core.proofs.LegalMachines.{accepted_legal}
use Rattle.schedule_core.proofs.laws.accepted_jobs_are_legal.Goals as goal

pub returns : goal.returns
returns c = accepted_legal
