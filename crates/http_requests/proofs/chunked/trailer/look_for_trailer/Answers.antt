use Rattle.std.proofs.Common.{arith}
use Rattle.http_requests.proofs.ChunkPrefixes.{trailer_whole, trailer_when_short}
use Rattle.http_requests.proofs.ChunkFound.{trailer_never_found}
use Rattle.http_requests.proofs.chunked.trailer.look_for_trailer.Goals as goal

pub returns-in-Complete : goal.returns-in-Complete
returns-in-Complete c =
    let parsed = c.parse_headers-parsed.ensures in
    let is = c.in-Complete.ensures in
    trailer_whole c.args.bytes.now c.prefix_of.result.now c.parse_headers-parsed.new.headers _ _ c.prefix_of.ensures
    (omega (arith, c.parse_headers-parsed.auto.headers)) (rw is at parsed.complete) (rw is at parsed.within)

pub returns-in-Partial : goal.returns-in-Partial
returns-in-Partial c =
    let parsed = c.parse_headers-parsed.ensures in
    let is = c.in-Partial.ensures in
    (trailer_when_short c.args.bytes.now c.prefix_of.result.now c.prefix_of.ensures is.1 (rw is.0 at parsed.partial), is.1)

pub returns-in-Invalid : goal.returns-in-Invalid
returns-in-Invalid c =
    let parsed = c.parse_headers-parsed.ensures in
    trailer_never_found c.args.bytes.now c.prefix_of.result.now _ _ c.prefix_of.ensures (omega arith) parsed.partial parsed.no_room c.in-Invalid.ensures
