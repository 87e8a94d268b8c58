use Rattle.std.proofs.Common.{◌≡◌, take}
use Rattle.service_index.specs.Indexes.{operations_at}
use Rattle.service_index.specs.KeptNames.{names_of_arrivals}
use Rattle.service_index.proofs.arrival_names.names.operations_of.Given as goal

abbrev pub invariant-loop-n : goal.invariant-loop-n
invariant-loop-n l = l.operations.items ≡ operations_at (names_of_arrivals l.arrivals) (take l.n-index l.numbers)
