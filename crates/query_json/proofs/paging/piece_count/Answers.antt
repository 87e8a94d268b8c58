use Rattle.std.proofs.Common.{◌≡◌, ◌<◌, ap, arith, length, sym}
use Rattle.query_json.specs.Pieces.{item_pieces}
use Rattle.query_json.proofs.Runs.{length_runs, run_at, run_end}
use Rattle.query_json.proofs.paging.piece_count.Goals as goal

pub returns-then-run-count-clause-count : goal.returns-then-run-count-clause-count
returns-then-run-count-clause-count c =
    let rs = item_pieces c.args.items.now in
    let within : c.args.run < length rs = omega (arith, c.count.ensures.count, c.if-run-count.true) in
    omega (arith, c.piece_count.ensures.count, ap length (run_at rs c.args.run within))

pub returns-else-run-count-clause-count : goal.returns-else-run-count-clause-count
returns-else-run-count-clause-count c =
    let rs = item_pieces c.args.items.now in
    let last : c.args.run ≡ length rs = omega (arith, c.requires.run, length_runs rs, c.count.ensures.count, c.if-run-count.false) in
    sym (ap length (run_end rs c.args.run last))

pub returns-else-run-count-clause-run_bound : goal.returns-else-run-count-clause-run_bound
returns-else-run-count-clause-run_bound c =
    omega (arith, c.requires.run, length_runs (item_pieces c.args.items.now), c.count.ensures.count, c.count.ensures.bound)
