use Rattle.std.proofs.Common.{◌≡◌, ℕ, take}
use Rattle.std.specs.Ordering.{nat_cmp}
use Rattle.std.specs.BTreeMap.{get}
use Rattle.call_links.specs.ServiceRanks.{rank_of}
use Rattle.call_links.proofs.order.ranks.Given as goal

abbrev pub invariant-loop-rank : goal.invariant-loop-rank
invariant-loop-rank l = (n : ℕ) → get nat_cmp l.ranks n ≡ rank_of (take l.rank l.numbers) n
