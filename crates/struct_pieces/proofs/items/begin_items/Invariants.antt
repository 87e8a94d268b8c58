use Rattle.std.proofs.Common.{◌≤◌, length}
use Rattle.wire_pieces.specs.Pieces.{Comes, moment}
use Rattle.struct_pieces.specs.Lists.{items_after}
use Rattle.struct_pieces.proofs.items.begin_items.Given as goal

abbrev pub invariant-loop-left : goal.invariant-loop-left
invariant-loop-left g l =
    Comes (moment (items_after g.P.Item.reads l.fn.items.items l.fn.left) l.fn.piece) (moment (items_after g.P.Item.reads l.items.items l.left) l.piece)
    × (length l.piece ≤ length l.fn.piece)

abbrev pub decreases-loop-left : goal.decreases-loop-left
decreases-loop-left g l = l.left
