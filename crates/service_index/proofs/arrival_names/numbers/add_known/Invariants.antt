use Rattle.std.proofs.Common.{◌≡◌, ◌++◌, take, vec_capacity}
use Rattle.service_index.proofs.arrival_names.numbers.add_known.Given as goal

abbrev pub invariant-loop-kind : goal.invariant-loop-kind
invariant-loop-kind l = (l.kinds.items ≡ l.initial.kinds.items ++ take l.kind-index l.known) × (vec_capacity l.kinds ≡ vec_capacity l.initial.kinds)
