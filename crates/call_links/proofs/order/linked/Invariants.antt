use Rattle.std.proofs.Common.{◌≡◌, map}
use Rattle.call_links.specs.LinkTallies.{tally_seen}
use Rattle.call_links.specs.ServiceRanks.{link_of}
use Rattle.call_links.proofs.order.linked.Given as goal

abbrev pub invariant-loop-tally : goal.invariant-loop-tally
invariant-loop-tally l = l.links.items ≡ map (λ e. link_of (tally_seen e).1) l.yielded
