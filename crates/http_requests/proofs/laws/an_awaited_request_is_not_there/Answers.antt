use Rattle.http_requests.proofs.AwaitedRequests.{not_there}
use Rattle.http_requests.proofs.laws.an_awaited_request_is_not_there.Goals as goal

pub returns : goal.returns
returns c = not_there
