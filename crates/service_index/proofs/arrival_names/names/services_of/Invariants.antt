use Rattle.std.proofs.Common.{◌≡◌, take}
use Rattle.service_index.specs.Indexes.{owners}
use Rattle.service_index.specs.KeptNames.{names_of_arrivals}
use Rattle.service_index.proofs.arrival_names.names.services_of.Given as goal

abbrev pub invariant-loop-n : goal.invariant-loop-n
invariant-loop-n l = l.services.items ≡ owners (names_of_arrivals l.arrivals) (take l.n-index l.numbers)
