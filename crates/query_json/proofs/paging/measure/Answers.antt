use Rattle.std.proofs.Common.{◌≡◌, [], length, length-append, ap, sym, subst, arith}
use Rattle.query_json.specs.Pieces.{item_pieces, runs_of}
use Rattle.query_json.specs.Runs.{AllFit, left_at, runs_text}
use Rattle.query_json.proofs.Runs.{left_none, length_runs}
use Rattle.query_json.proofs.paging.measure.Goals as goal

pub write_next-at-requires-clause-run : goal.write_next-at-requires-clause-run
write_next-at-requires-clause-run c = omega (arith, length_runs (item_pieces c.args.items.now), c.count.ensures.count, c.loop-at-test.true)

pub loop-at-preserved : goal.loop-at-preserved
loop-at-preserved c =
    let l = c.loop-at in
    let next = c.write_next-at.ensures in
    let at = c.write_next-at.result in
    let rs = runs_of c.args.items.now in
    let none = c.counting-page.ensures in
    let size = c.in_ok-size.ensures in
    let long : c.in_ok-size.size ≡ length next.piece =
    omega (arith, size.counted, none.counted, next.puts.adds.counts none.full (omega (arith, size.counted, size.bound))) in
    let both = length-append next.piece (runs_text (left_at rs at.run at.piece)) in
    let largest = c.max-largest.ensures in
    record {
      rest_len = omega (arith, l.invariant.rest_len, ap length next.text, both, long, c.in-Some.ensures);
      bounds = λ most h fit. l.invariant.bounds most (omega (arith, h, largest)) (next.bounds most (omega (arith, h, largest, long)) fit);
    }

pub returns-clause-rest_len : goal.returns-clause-rest_len
returns-clause-rest_len c =
    let l = c.loop-at in
    let rs = runs_of c.args.items.now in
    let none : left_at rs l.at.run l.at.piece ≡ [] =
    left_none rs l.at.run l.at.piece (omega (arith, length_runs (item_pieces c.args.items.now), c.count.ensures.count, c.loop-at-test.false)) in
    omega (arith, l.invariant.rest_len, ap (λ ls. length (runs_text ls)) none)

pub returns-clause-fit : goal.returns-clause-fit
returns-clause-fit c =
    let l = c.loop-at in
    let rs = runs_of c.args.items.now in
    let none : left_at rs l.at.run l.at.piece ≡ [] =
    left_none rs l.at.run l.at.piece (omega (arith, length_runs (item_pieces c.args.items.now), c.count.ensures.count, c.loop-at-test.false)) in
    l.invariant.bounds l.largest (omega arith) (subst (AllFit l.largest) (sym none) tt)
