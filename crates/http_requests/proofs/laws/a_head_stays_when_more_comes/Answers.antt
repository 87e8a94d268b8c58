use Rattle.http_requests.proofs.OneRequest.{head_stays}
use Rattle.http_requests.proofs.laws.a_head_stays_when_more_comes.Goals as goal

pub returns : goal.returns
returns c = head_stays
