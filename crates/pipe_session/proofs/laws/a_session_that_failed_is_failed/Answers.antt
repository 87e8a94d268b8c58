use Rattle.pipe_session.proofs.Contracts.{failed}
use Rattle.pipe_session.proofs.laws.a_session_that_failed_is_failed.Goals as goal

pub returns : goal.returns
returns c = λ before after failure.
    failed before.input before.output after.input after.output before.store after.store failure.input_failed failure.output_failed failure.error
