use Rattle.pipe_session.proofs.OutOfMemory.{ended_before}
use Rattle.pipe_session.proofs.laws.what_an_ended_session_wrote_before_memory_ran_out.Goals as goal

pub returns : goal.returns
returns c = λ before after ended ends xs had.
    ended_before before.input before.output after.input after.output before.store after.store ended.answered ended.reason
    ends xs had.1 had.0 had.2 had.3
