use Rattle.std.proofs.Common.{◌≡◌, map, drop}
use Rattle.httparse.specs.Spans.{header_bytes}
use Rattle.http_requests.specs.Fields.{have_token}
use Rattle.http_requests.proofs.fields.Fields.have_token.Given as goal

abbrev pub invariant-loop-span : goal.invariant-loop-span
invariant-loop-span l =
    have_token l.name l.token (map (header_bytes l.self-inside.bytes.now) (drop l.span-index l.self-inside.spans.now)) ≡ have_token l.name l.token l.self
