use Rattle.struct_pieces.proofs.StructSteps.{struct-fresh}
use Rattle.struct_pieces.proofs.structs.Struct.new.Goals as goal

pub returns : goal.returns
returns g c =
    λ w. struct-fresh g.S.PieceSlots.takes g.S.PieceSlots.resumes g.S.PieceSlots.makes g.met.S.PieceSlots.safe _ _ c.new.result w c.start.ensures
    c.new.ensures.fresh
