use Rattle.pipe_session.proofs.OneFunction.{one_function}
use Rattle.pipe_session.proofs.laws.bytes_written_are_one_function.Goals as goal

pub returns : goal.returns
returns c = one_function
