use Rattle.std.proofs.Common.{◌≡◌, ◌<◌, ◌≤◌, ◌++◌, length}
use Rattle.wire_pieces.proofs.partial_bytes.PartialBytes.more_by_bytes.Given as goal

abbrev pub invariant-loop-byte : goal.invariant-loop-byte
invariant-loop-byte g l = (l.self ++ l.piece ≡ l.fn.self ++ l.fn.piece) × (length l.self < g.row.N) × (length l.piece ≤ length l.fn.piece)

abbrev pub decreases-loop-byte : goal.decreases-loop-byte
decreases-loop-byte g l = length l.piece
