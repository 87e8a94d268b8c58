use Rattle.http_requests.proofs.OneRequest.{breaks_all}
use Rattle.http_requests.proofs.laws.a_malformed_request_stays_malformed.Goals as goal

pub returns : goal.returns
returns c = breaks_all
