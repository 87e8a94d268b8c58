use Rattle.schedule_core.proofs.HistoryGrowth.{history_grows}
use Rattle.schedule_core.proofs.laws.the_history_only_grows.Goals as goal

pub returns : goal.returns
returns c = history_grows
