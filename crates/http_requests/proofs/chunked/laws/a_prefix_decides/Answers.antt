use Rattle.http_requests.proofs.OneChunkedBody.{reading_stays}
use Rattle.http_requests.proofs.chunked.laws.a_prefix_decides.Goals as goal

pub returns : goal.returns
returns c = reading_stays
