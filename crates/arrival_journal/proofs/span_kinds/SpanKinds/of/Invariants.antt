use Rattle.std.proofs.Common.{◌≡◌, map, take}
use Rattle.jaeger_model.specs.Tags.{kind_of}
use Rattle.arrival_journal.proofs.span_kinds.SpanKinds.of.Given as goal

abbrev pub invariant-loop-span : goal.invariant-loop-span
invariant-loop-span l = l.kinds ≡ map kind_of (take l.span-index l.first)
