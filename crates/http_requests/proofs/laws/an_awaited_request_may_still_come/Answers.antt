use Rattle.http_requests.proofs.AwaitedRequests.{not_hopeless}
use Rattle.http_requests.proofs.laws.an_awaited_request_may_still_come.Goals as goal

pub returns : goal.returns
returns c = not_hopeless
