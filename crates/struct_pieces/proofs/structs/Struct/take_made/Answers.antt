use Rattle.std.proofs.Common.{◌∙◌}
use Rattle.struct_pieces.proofs.StructSteps.{struct-fresh}
use Rattle.struct_pieces.proofs.structs.Struct.take_made.Goals as goal

pub returns-clause-fresh : goal.returns-clause-fresh
returns-clause-fresh g c =
    λ w. struct-fresh g.S.PieceSlots.takes g.S.PieceSlots.resumes g.S.PieceSlots.makes g.met.S.PieceSlots.safe _ _ c.new.result w
    (c.replace-slots.ensures.after ∙ c.start.ensures) c.new.ensures.fresh
