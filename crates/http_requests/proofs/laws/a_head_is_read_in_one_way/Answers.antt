use Rattle.http_requests.proofs.OneRequest.{head_once}
use Rattle.http_requests.proofs.laws.a_head_is_read_in_one_way.Goals as goal

pub returns : goal.returns
returns c = head_once
