use Rattle.std.proofs.Common.{◌≡◌, map}
use Rattle.std.specs.Prelude.{unwrap_or}
use Rattle.std.specs.Ordering.{nat_cmp}
use Rattle.std.specs.BTreeMap.{get}
use Rattle.call_links.specs.LinkTallies.{tally_seen, tallies_seen}
use Rattle.call_links.specs.ServiceRanks.{ranked}
use Rattle.call_links.proofs.order.by_ranks.Given as goal

abbrev pub invariant-loop-numbers : goal.invariant-loop-numbers
invariant-loop-numbers l = map tally_seen l.ranked.entries ≡ ranked (λ n. unwrap_or (get nat_cmp l.ranks n) 0) (tallies_seen l.yielded)
