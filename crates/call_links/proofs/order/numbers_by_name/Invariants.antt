use Rattle.std.proofs.Common.{◌≡◌, map}
use Rattle.call_links.specs.ServiceRanks.{name_entry}
use Rattle.call_links.proofs.order.numbers_by_name.Given as goal

abbrev pub invariant-loop-number : goal.invariant-loop-number
invariant-loop-number l = l.numbers.items ≡ map (λ e. (name_entry e).1) l.yielded
