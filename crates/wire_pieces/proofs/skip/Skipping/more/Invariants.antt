use Rattle.std.proofs.Common.{◌≤◌, length}
use Rattle.wire_pieces.specs.Pieces.{Comes, moment}
use Rattle.wire_pieces.specs.Skipped.{skipping, weight}
use Rattle.wire_pieces.proofs.skip.Skipping.more.Given as goal

abbrev pub invariant-loop : goal.invariant-loop
invariant-loop l = Comes (moment (skipping l.fn.self) l.fn.piece) (moment (skipping l.self) l.piece) × (length l.piece ≤ length l.fn.piece)

abbrev pub decreases-loop : goal.decreases-loop
decreases-loop l = weight l.self l.piece
