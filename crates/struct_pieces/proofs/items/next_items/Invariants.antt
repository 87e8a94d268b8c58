use Rattle.std.proofs.Common.{◌≤◌, length}
use Rattle.wire_pieces.specs.Pieces.{Comes, moment}
use Rattle.struct_pieces.specs.Lists.{items_ended}
use Rattle.struct_pieces.proofs.items.next_items.Given as goal

abbrev pub invariant-loop-item : goal.invariant-loop-item
invariant-loop-item g l =
    Comes (moment (items_ended g.P.Item.reads l.fn.items.items l.fn.left (g.P.Item.ends l.fn.one)) l.fn.piece)
    (moment (items_ended g.P.Item.reads l.items.items l.left (g.P.Item.ends l.one)) l.piece)
    × (length l.piece ≤ length l.fn.piece)

abbrev pub decreases-loop-item : goal.decreases-loop-item
decreases-loop-item g l = l.left
