use Rattle.http_requests.proofs.OneRequest.{piece_no_request}
use Rattle.http_requests.proofs.laws.a_request_is_not_malformed.Goals as goal

pub returns : goal.returns
returns c = piece_no_request
