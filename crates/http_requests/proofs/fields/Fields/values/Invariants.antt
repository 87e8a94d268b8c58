use Rattle.std.proofs.Common.{◌≡◌, ◌++◌, map, drop}
use Rattle.httparse.specs.Spans.{header_bytes}
use Rattle.http_requests.specs.Fields.{values_of, values_in, AreValues}
use Rattle.http_requests.proofs.fields.Fields.values.Given as goal

abbrev pub invariant-loop-span : goal.invariant-loop-span
invariant-loop-span l =
    (values_in l.found ++ values_of l.name (map (header_bytes l.self-inside.bytes.now) (drop l.span-index l.self-inside.spans.now)) ≡ values_of l.name l.self)
    × AreValues l.found (values_in l.found)
