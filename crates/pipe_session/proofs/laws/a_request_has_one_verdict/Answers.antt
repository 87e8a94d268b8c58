use Rattle.pipe_session.proofs.OneVerdict.{one_verdict}
use Rattle.pipe_session.proofs.laws.a_request_has_one_verdict.Goals as goal

pub returns : goal.returns
returns c = one_verdict
