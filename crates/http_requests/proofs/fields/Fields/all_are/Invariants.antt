use Rattle.std.proofs.Common.{◌≡◌, map, drop}
use Rattle.httparse.specs.Spans.{header_bytes}
use Rattle.http_requests.specs.Fields.{all_are}
use Rattle.http_requests.proofs.fields.Fields.all_are.Given as goal

abbrev pub invariant-loop-span : goal.invariant-loop-span
invariant-loop-span l =
    all_are l.name l.value (map (header_bytes l.self-inside.bytes.now) (drop l.span-index l.self-inside.spans.now)) ≡ all_are l.name l.value l.self
