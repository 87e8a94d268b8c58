use Rattle.std.proofs.Common.{◌≡◌, take, fold}
use Rattle.std.specs.Prelude.{option_map, filter_map}
use Rattle.std.specs.Ordering.{nat_cmp}
use Rattle.std.specs.BTreeMap.{get}
use Rattle.call_links.specs.NumberedCalls.{service_seen, call_by}
use Rattle.call_links.specs.LinkTallies.{with_call}
use Rattle.call_links.proofs.counts.LinkCounts.add.Given as goal

abbrev pub invariant-loop-span : goal.invariant-loop-span
invariant-loop-span l =
    l.self ≡ fold with_call l.fn.self (filter_map (call_by (λ id. option_map service_seen (get nat_cmp l.first id))) (take l.span-index l.trace))
