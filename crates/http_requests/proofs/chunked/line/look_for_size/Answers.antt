use Rattle.http_requests.proofs.ChunkFound.{line_looks}
use Rattle.http_requests.proofs.chunked.line.look_for_size.Goals as goal

pub returns : goal.returns
returns c =
    let parsed = c.parse_chunk_size-parsed.ensures in
    line_looks c.args.bytes.now c.prefix_of.result.now _ _ c.prefix_of.ensures parsed.complete parsed.partial parsed.unfinished parsed.invalid
    c.limited_status.ensures
