use Rattle.std.proofs.Common.{◌∙◌, refl, sym, ap, rules}
use Rattle.std.specs.Ordering.{nat_cmp}
use Rattle.std.specs.BTreeMap.{get}
use Rattle.call_links.proofs.TalliesByName.{rank_entered, rank_kept}
use Rattle.call_links.proofs.order.ranks.Goals as goal
use Rattle.call_links.proofs.order.ranks.Goals.{then-not-contains_key+in_ok-insert, else-not-contains_key}

pub loop-rank-preserved : goal.loop-rank-preserved
loop-rank-preserved c = λ n.
    let ks = c.args.numbers.now in
    let had = get nat_cmp c.loop-rank.ranks in
    let i = c.loop-rank.rank in
    elim c.if-not-contains_key.branch [
      | then-not-contains_key+in_ok-insert w ↦
          ap (λ m. get nat_cmp m n) w.ranks-is
          ∙ rank_entered n had (get nat_cmp w.insert.new.self n) ks i _ (search rules) (search rules) c.loop-rank.invariant
          (sym c.contains_key.ensures ∙ w.if-not-contains_key.true) (w.in_ok-insert.ensures.updates.0 n)
      | else-not-contains_key w ↦
          ap (λ m. get nat_cmp m n) w.ranks-is
          ∙ rank_kept n had ks i _ (search rules) refl c.loop-rank.invariant (sym c.contains_key.ensures ∙ w.if-not-contains_key.false)
    ]
