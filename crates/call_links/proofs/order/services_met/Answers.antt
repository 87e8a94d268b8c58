use Rattle.std.proofs.Common.{◌≡◌, ◌∙◌, [], sym, ap, map, rules}
use Rattle.std.specs.BTreeMap.{insert_entry}
use Rattle.std.specs.Map.Iter.{deref_pair}
use Rattle.std.specs.Ordering.{nat_cmp}
use Rattle.std.proofs.lemmas.List.{map_push}
use Rattle.std.proofs.lemmas.List.Sums.{fold_push}
use Rattle.std.proofs.lemmas.Map.Iter.{iter_end}
use Rattle.call_links.specs.NumberedCalls.{text_in}
use Rattle.call_links.specs.LinkTallies.{tally_seen, tallies_seen}
use Rattle.call_links.specs.ServiceRanks.{service_entry, with_services, services_met}
use Rattle.call_links.proofs.TalliesByName.{service_put}
use Rattle.call_links.proofs.order.services_met.Goals as goal

pub loop-numbers-preserved : goal.loop-numbers-preserved
loop-numbers-preserved c =
    let done = map deref_pair c.loop-numbers.yielded in
    let numbers = c.in-Some.numbers.now in
    let first =
    ap (map service_entry) c.in_ok-insert.ensures.entries
    ∙ service_put c.loop-numbers.services.entries numbers.0 c.duplicate.result
    ∙ (λ i. insert_entry nat_cmp (c.loop-numbers.invariant i) numbers.0 (text_in (c.duplicate.ensures i).span)) in
    ap (map service_entry) c.in_ok-insert-2.ensures.entries
    ∙ service_put c.insert.new.self.entries numbers.1 c.duplicate-in-loop-numbers.result
    ∙ (λ i. insert_entry nat_cmp (first i) numbers.1 (text_in (c.duplicate-in-loop-numbers.ensures i).span))
    ∙ sym (ap (λ es. services_met (tallies_seen es)) (map_push deref_pair c.loop-numbers.yielded _) ∙ ap services_met (map_push tally_seen done _)
    ∙ fold_push with_services [] (tallies_seen done) _)

pub returns : goal.returns
returns c =
    let all : map deref_pair c.loop-numbers.yielded ≡ c.args.tallies.now.entries = search (rules, iter_end) in
    c.loop-numbers.invariant ∙ ap (λ es. services_met (tallies_seen es)) all
