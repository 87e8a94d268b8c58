use Rattle.http_requests.proofs.OneChunkedBody.{same_reading}
use Rattle.http_requests.proofs.chunked.laws.bytes_come_to_one_answer.Goals as goal

pub returns : goal.returns
returns c = same_reading
