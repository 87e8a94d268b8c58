use Rattle.std.proofs.Common.{◌≤◌, ◌<◌, arith, get_or, length, []}
use Rattle.query_json.specs.Pieces.{runs_of}
use Rattle.query_json.proofs.Runs.{puts_none, puts_piece}
use Rattle.query_json.proofs.paging.write_next.Goals as goal

pub returns-then-at-piece_count : goal.returns-then-at-piece_count
returns-then-at-piece_count c =
    let rs = runs_of c.args.items.now in
    let inside : c.args.at.piece < length (get_or rs c.args.at.run []) = omega (arith, c.piece_count.ensures.count, c.if-at-piece_count.true) in
    puts_piece rs c.args.at.run c.args.at.piece c.requires.run inside c.write_piece.ensures

pub returns : goal.returns
returns c =
    let rs = runs_of c.args.items.now in
    let over : length (get_or rs c.args.at.run []) ≤ c.args.at.piece = omega (arith, c.piece_count.ensures.count, c.if-at-piece_count.false) in
    puts_none c.args.page.now rs c.args.at.run c.args.at.piece c.requires.run over
