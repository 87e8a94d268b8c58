use Rattle.std.proofs.Common.{◌≤◌, length, subst, arith}
use Rattle.std.specs.List.{All}
use Rattle.std.proofs.lemmas.List.{take_all}
use mathlib.Core.List.{IsPrefix}
use Rattle.trace_model.proofs.Prefixes.{prefix_trans}
use Rattle.read_side.proofs.GrowingLists.{all_begin_more}
use Rattle.read_side.proofs.prefix.longest.Goals as goal

pub loop-other-preserved : goal.loop-other-preserved
loop-other-preserved g c =
    let before = c.loop-other.longest in
    let longer = c.longer-longest.result in (
      prefix_trans c.args.first.now before longer c.loop-other.invariant.0 c.longer-longest.ensures.own,
      all_begin_more before longer c.args.others.now c.loop-other.other-index c.other-item.result c.loop-other-test.true c.other-item.is
          c.loop-other.invariant.1 c.longer-longest.ensures.own c.longer-longest.ensures.other,
    )

pub returns-clause-others : goal.returns-clause-others
returns-clause-others g c =
    let end : length c.args.others.now ≤ c.loop-other.other-index = let h = c.loop-other-test.false in omega arith in
    subst (All (λ p. IsPrefix p c.loop-other.longest)) (take_all c.loop-other.other-index c.args.others.now end) c.loop-other.invariant.1
