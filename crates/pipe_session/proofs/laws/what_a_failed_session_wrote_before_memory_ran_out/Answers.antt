use Rattle.pipe_session.proofs.OutOfMemory.{failed_before}
use Rattle.pipe_session.proofs.laws.what_a_failed_session_wrote_before_memory_ran_out.Goals as goal

pub returns : goal.returns
returns c = λ before after failure fails xs had.
    failed_before before.input before.output after.input after.output before.store after.store failure.input_failed failure.output_failed failure.error
    fails xs had.1 had.0 had.2 had.3
