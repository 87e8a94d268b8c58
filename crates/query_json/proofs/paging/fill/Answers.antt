use Rattle.std.proofs.Common.{arith, inr, sym}
use Rattle.query_json.specs.Pieces.{item_pieces}
use Rattle.query_json.proofs.Runs.{Fills-next, length_runs}
use Rattle.query_json.proofs.paging.fill.Goals as goal

pub write_next-at-requires-clause-run : goal.write_next-at-requires-clause-run
write_next-at-requires-clause-run c = omega (arith, length_runs (item_pieces c.args.items.now), c.count.ensures.count, c.loop-at-test.true)

pub loop-at-preserved : goal.loop-at-preserved
loop-at-preserved c = Fills-next c.loop-at.invariant c.write_next-at.ensures (omega (arith, c.if-len-enough.true, c.len.ensures)) (sym c.if-not-is_full.ensures)

pub returns-after-loop-at-clause-enough : goal.returns-after-loop-at-clause-enough
returns-after-loop-at-clause-enough c = λ room. inr (omega (arith, length_runs (item_pieces c.args.items.now), c.count.ensures.count, c.loop-at-test.false))
