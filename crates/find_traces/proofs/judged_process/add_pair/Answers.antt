use Rattle.std.proofs.Common.{◌≡◌, ◌∙◌, ℕ, List, Bor, ap, sym, true, false, cond}
use Rattle.std.specs.Prelude.{option_copied}
use Rattle.find_traces.specs.RequestedPairs.{pair_of, same_pair, is_in, pairs_lent}
use Rattle.find_traces.proofs.RequestedPairs.{lent_in, met_put, met_same, requested_some, requested_none, wants_new, wants_old, wants_none}
use Rattle.find_traces.proofs.judged_process.add_pair.Goals as goal

pub returns-in_ok-insert : goal.returns-in_ok-insert
returns-in_ok-insert c = λ a.
    let q = c.args.prepared.now in
    let others = pairs_lent c.args.others.now.keys in
    let x = pair_of c.args.tag.now in
    let p = c.in-Some.pair in
    let requested = requested_some q x p.now (sym c.in_ok-pair.ensures ∙ ap option_copied c.in-Some.is) in
    let absent : is_in others p.now ≡ false = lent_in p.now c.args.others.now.keys ∙ sym c.contains.ensures ∙ c.if-not-contains.true in
    let prepared = wants_new q others x p.now requested.0 requested.1 absent in
    let old = c.args.pairs.now.keys in
    let at : Bor (List ℕ × List ℕ) = record { ref_ptr = p.ref_ptr; now = a } in
    let put =
    lent_in a c.insert.new.self.keys ∙ c.in_ok-insert.ensures.updates.0 at ∙ ap (cond (same_pair p.now a) true) (sym (lent_in a old))
    ∙ ap (λ y. cond (same_pair y a) true (is_in (pairs_lent old) a)) requested.1 in
    met_put q others (pairs_lent c.insert.new.self.keys) (pairs_lent old) x prepared a put

pub returns-else-not-contains : goal.returns-else-not-contains
returns-else-not-contains c = λ a.
    let q = c.args.prepared.now in
    let others = pairs_lent c.args.others.now.keys in
    let x = pair_of c.args.tag.now in
    let p = c.in-Some.pair in
    let requested = requested_some q x p.now (sym c.in_ok-pair.ensures ∙ ap option_copied c.in-Some.is) in
    let there : is_in others p.now ≡ true = lent_in p.now c.args.others.now.keys ∙ sym c.contains.ensures ∙ c.if-not-contains.false in
    met_same q others (pairs_lent c.args.pairs.now.keys) x (wants_old q others x p.now requested.1 there) a

pub returns-in_default : goal.returns-in_default
returns-in_default c = λ a.
    let q = c.args.prepared.now in
    let others = pairs_lent c.args.others.now.keys in
    let x = pair_of c.args.tag.now in
    let none = requested_none q x (sym c.in_ok-pair.ensures ∙ ap option_copied c.in_default.is) in
    met_same q others (pairs_lent c.args.pairs.now.keys) x (wants_none q others x none) a
