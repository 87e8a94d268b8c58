use Rattle.std.proofs.Common.{◌≡◌, ℕ, ◌+◌, ◌∙◌, Option, Some, None, ap, sym}
use Rattle.std.specs.BTreeMap.{BTreeMap, insert_entry, is_at}
use Rattle.std.specs.Map.{lookup}
use Rattle.std.specs.Option.{option_copied_mut}
use Rattle.std.specs.Prelude.{option_map, unwrap_or}
use Rattle.call_links.specs.declared.tally.LinkTally.{LinkTally}
use Rattle.call_links.specs.NumberedCalls.{numbered_call}
use Rattle.call_links.specs.LinkTallies.{PairNumbers, number_cmp, tallies_seen, with_call}
use Rattle.call_links.proofs.CountedCalls.{call_put, written_is_put}
use Rattle.call_links.proofs.counts.LinkCounts.count.Goals as goal

abbrev calls_in : Option LinkTally → ℕ
calls_in o = unwrap_or (option_map (λ (t : LinkTally). t.calls) o) 0

pub returns-in-Some : goal.returns-in-Some
returns-in-Some c =
    let es = c.self.inside.tallies.entries in
    let call = c.args.call in
    let k = c.numbers_of-numbers.result in
    let named = c.numbers_of-numbers.ensures in
    let before = c.in-Some.tally.now in
    let found : lookup (is_at (number_cmp k)) es ≡ Some before = sym c.get_mut.ensures.value ∙ ap option_copied_mut c.in-Some.is in
    let made = c.in_ok-tally.ensures in
    let counted = ap (λ (o : Option LinkTally). calls_in o + 1) (sym found) ∙ ap (λ (n : PairNumbers). calls_in (lookup (is_at (number_cmp n)) es) + 1) named in
    ap tallies_seen
    ((c.get_mut.follows.holds c.in_ok-tally.field-0).0 ∙ written_is_put es k before c.in_ok-tally.field-0 c.get_mut.ensures.ordered found)
    ∙ (λ i. tallies_seen (insert_entry number_cmp es (named i) (made i)))
    ∙ call_put es call (before.calls + 1) counted
    ∙ ap (λ es. with_call es (numbered_call call)) c.self.view_is

pub returns : goal.returns
returns c =
    let es = c.self.inside.tallies.entries in
    let call = c.args.call in
    let k = c.numbers_of-numbers.result in
    let named = c.numbers_of-numbers.ensures in
    let none : lookup (is_at (number_cmp k)) es ≡ None = sym c.get_mut.ensures.value ∙ ap option_copied_mut c.in_default.is in
    let made = c.in_ok-link_tally_after.ensures in
    let counted = ap (λ (o : Option LinkTally). calls_in o + 1) (sym none) ∙ ap (λ (n : PairNumbers). calls_in (lookup (is_at (number_cmp n)) es) + 1) named in
    ap tallies_seen
    (c.in_ok-insert.ensures.entries
    ∙ ap (λ (m : BTreeMap PairNumbers LinkTally). insert_entry number_cmp m.entries k c.in_ok-link_tally_after.field-0) c.get_mut.follows.holds-at-none)
    ∙ (λ i. tallies_seen (insert_entry number_cmp es (named i) (made i)))
    ∙ call_put es call 1 counted
    ∙ ap (λ es. with_call es (numbered_call call)) c.self.view_is
