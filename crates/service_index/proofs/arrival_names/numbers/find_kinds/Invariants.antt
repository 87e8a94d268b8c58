use Rattle.std.proofs.Common.{◌≡◌, ◌+◌, ◌++◌, map, take, length, vec_capacity}
use Rattle.jaeger_model.specs.Tags.{kind_of}
use Rattle.jaeger_model.specs.Kinds.{kind_text}
use Rattle.service_index.proofs.arrival_names.numbers.find_kinds.Given as goal

abbrev pub invariant-loop-span : goal.invariant-loop-span
invariant-loop-span l =
    (map kind_text l.kinds.items ≡ map kind_text l.initial.kinds.items ++ map kind_of (take l.span-index l.spans))
    × (vec_capacity l.kinds ≡ vec_capacity l.initial.kinds)
    × (length l.kinds.items ≡ length l.initial.kinds.items + l.span-index)
