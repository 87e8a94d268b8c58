use Rattle.http_requests.proofs.AwaitedRequests.{not_too_large}
use Rattle.http_requests.proofs.laws.an_awaited_request_is_not_too_large.Goals as goal

pub returns : goal.returns
returns c = not_too_large
