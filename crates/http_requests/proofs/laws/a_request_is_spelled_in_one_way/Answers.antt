use Rattle.http_requests.proofs.OneRequest.{request_once}
use Rattle.http_requests.proofs.laws.a_request_is_spelled_in_one_way.Goals as goal

pub returns : goal.returns
returns c = request_once
