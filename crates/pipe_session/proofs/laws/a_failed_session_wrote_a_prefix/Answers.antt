use Rattle.pipe_session.proofs.OneFunction.{a_beginning}
use Rattle.pipe_session.proofs.laws.a_failed_session_wrote_a_prefix.Goals as goal

pub returns : goal.returns
returns c = a_beginning
