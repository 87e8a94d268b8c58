use Rattle.http_requests.proofs.OneRequest.{piece_one_fault}
use Rattle.http_requests.proofs.laws.a_malformed_request_has_one_reason.Goals as goal

pub returns : goal.returns
returns c = piece_one_fault
