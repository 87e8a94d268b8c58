use Rattle.schedule_core.proofs.Fronts.{fronts_never_fall}
use Rattle.schedule_core.proofs.laws.fronts_of_a_reader_never_fall.Goals as goal

pub returns : goal.returns
returns c = fronts_never_fall
