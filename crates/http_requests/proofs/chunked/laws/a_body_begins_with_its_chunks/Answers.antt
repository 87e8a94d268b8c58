use Rattle.http_requests.proofs.ChunkSizes.{body_is_sized}
use Rattle.http_requests.proofs.chunked.laws.a_body_begins_with_its_chunks.Goals as goal

pub returns : goal.returns
returns c = body_is_sized
