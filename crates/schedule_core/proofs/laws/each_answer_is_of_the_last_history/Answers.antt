use Rattle.schedule_core.proofs.HistoryGrowth.{each_answer_is_of}
use Rattle.schedule_core.proofs.laws.each_answer_is_of_the_last_history.Goals as goal

pub returns : goal.returns
returns c = each_answer_is_of
