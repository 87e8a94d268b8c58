use Rattle.std.proofs.Common.{◌≡◌, ℕ, ◌∙◌, [], sym, ap, map, rules}
use Rattle.std.specs.Prelude.{unwrap_or}
use Rattle.std.specs.BTreeMap.{get, insert_entry}
use Rattle.std.specs.Ordering.{nat_cmp}
use Rattle.std.proofs.lemmas.List.{map-id, map_push}
use Rattle.std.proofs.lemmas.List.Sums.{fold_push}
use Rattle.std.proofs.lemmas.Map.Iter.{iter_end}
use Rattle.call_links.specs.LinkTallies.{PairTexts, number_cmp, tally_seen, tallies_seen}
use Rattle.call_links.specs.ServiceRanks.{with_ranks, ranked}
use Rattle.call_links.proofs.CountedCalls.{tally_put}
use Rattle.call_links.proofs.order.by_ranks.Goals as goal

pub loop-numbers-preserved : goal.loop-numbers-preserved
loop-numbers-preserved c =
    let done = c.loop-numbers.yielded in
    let rank : ℕ → ℕ = λ n. unwrap_or (get nat_cmp c.args.ranks.now n) 0 in
    let value : PairTexts × ℕ = (tally_seen (c.in-Some.numbers, c.in-Some.tally)).1 in
    ap tallies_seen c.in_ok-insert.ensures.entries
    ∙ tally_put c.loop-numbers.ranked.entries (c.in_ok-caller.caller, c.in_ok-callee.callee) c.in-Some.tally
    ∙ (λ i. insert_entry number_cmp (c.loop-numbers.invariant i) (c.in_ok-caller.ensures i, c.in_ok-callee.ensures i) value)
    ∙ sym (ap (ranked rank) (map_push tally_seen done _) ∙ fold_push (with_ranks rank) [] (tallies_seen done) _)

pub returns : goal.returns
returns c =
    let all : map (λ x. x) c.loop-numbers.yielded ≡ c.args.tallies.entries = search (rules, iter_end) in
    c.loop-numbers.invariant ∙ ap (λ es. ranked (λ n. unwrap_or (get nat_cmp c.args.ranks.now n) 0) (tallies_seen es))
    (sym (map-id c.loop-numbers.yielded) ∙ all)
