use Rattle.pipe_session.proofs.TwoFailed.{two_failed}
use Rattle.pipe_session.proofs.laws.of_two_failed_sessions_one_wrote_a_prefix.Goals as goal

pub returns : goal.returns
returns c = two_failed
