use Rattle.std.proofs.Common.{◌≤◌, length}
use Rattle.thrift_binary.specs.Fields.{fields_at}
use Rattle.wire_pieces.specs.Pieces.{Comes, moment}
use Rattle.batch_codec.specs.Decoding.{wire}
use Rattle.struct_pieces.proofs.fields.read_fields.Given as goal

abbrev pub invariant-loop-error : goal.invariant-loop-error
invariant-loop-error g l =
    Comes (moment (fields_at wire g.S.PieceSlots.takes l.fn.slots) l.fn.piece) (moment (fields_at wire g.S.PieceSlots.takes l.slots) l.cursor)
    × (length l.cursor ≤ length l.fn.piece)

abbrev pub decreases-loop-error : goal.decreases-loop-error
decreases-loop-error g l = length l.cursor
