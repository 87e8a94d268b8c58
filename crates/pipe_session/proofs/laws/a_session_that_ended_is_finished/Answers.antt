use Rattle.pipe_session.proofs.Contracts.{finished}
use Rattle.pipe_session.proofs.laws.a_session_that_ended_is_finished.Goals as goal

pub returns : goal.returns
returns c = λ before after ended.
    finished before.input before.output after.input after.output before.store after.store ended.answered ended.reason
