use Rattle.http_requests.proofs.OneRequest.{nothing_is_no_fault}
use Rattle.http_requests.proofs.laws.the_empty_input_is_not_malformed.Goals as goal

pub returns : goal.returns
returns c = nothing_is_no_fault
