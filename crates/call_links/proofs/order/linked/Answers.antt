use Rattle.std.proofs.Common.{◌≡◌, ◌∙◌, sym, ap, map, rules}
use Rattle.std.proofs.lemmas.List.{map-id}
use Rattle.std.proofs.lemmas.Simd.{map-map}
use Rattle.std.proofs.lemmas.Map.Iter.{iter_end}
use Rattle.call_links.specs.LinkTallies.{tally_seen}
use Rattle.call_links.specs.ServiceRanks.{link_of}
use Rattle.call_links.proofs.order.linked.Goals as goal

pub returns : goal.returns
returns c =
    let all : map (λ x. x) c.loop-tally.yielded ≡ c.args.ordered.entries = search (rules, iter_end) in
    c.loop-tally.invariant ∙ ap (map (λ e. link_of (tally_seen e).1)) (sym (map-id c.loop-tally.yielded) ∙ all)
    ∙ sym (map-map (λ e. link_of e.1) tally_seen c.args.ordered.entries)
