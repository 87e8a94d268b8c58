use Rattle.struct_pieces.proofs.StructSteps.{struct-arrives}
use Rattle.struct_pieces.proofs.structs.StructItem.arrive.Goals as goal

pub returns-clause-continues : goal.returns-clause-continues
returns-clause-continues g c =
    struct-arrives g.S.PieceSlots.takes g.S.PieceSlots.resumes g.S.PieceSlots.makes c.args.self.now.slots c.more_fields.new.slots c.args.self.now.step
    c.more_fields.new.step c.args.piece.now c.more_fields.new.piece c.more_fields.result c.more_fields.ensures.continues
