use Rattle.std.proofs.Common.{◌≡◌, map}
use Rattle.std.specs.Map.Iter.{deref_pair}
use Rattle.call_links.specs.LinkTallies.{tallies_seen}
use Rattle.call_links.specs.ServiceRanks.{service_entry, services_met}
use Rattle.call_links.proofs.order.services_met.Given as goal

abbrev pub invariant-loop-numbers : goal.invariant-loop-numbers
invariant-loop-numbers l = map service_entry l.services.entries ≡ services_met (tallies_seen (map deref_pair l.yielded))
