use Rattle.http_requests.proofs.OneChunkedBody.{bad_is_none}
use Rattle.http_requests.proofs.chunked.laws.bad_bytes_have_no_body.Goals as goal

pub returns : goal.returns
returns c = bad_is_none
