use Rattle.std.proofs.Common.{◌≡◌, map}
use Rattle.call_links.specs.ServiceRanks.{service_entry, name_entry, named}
use Rattle.call_links.proofs.order.by_name.Given as goal

abbrev pub invariant-loop-number : goal.invariant-loop-number
invariant-loop-number l = map name_entry l.names.entries ≡ named (map service_entry l.yielded)
