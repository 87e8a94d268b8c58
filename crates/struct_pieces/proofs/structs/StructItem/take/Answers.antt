use Rattle.std.proofs.Common.{sym, ◌∙◌}
use Rattle.struct_pieces.proofs.structs.StructItem.take.Goals as goal

pub returns-clause-no_want : goal.returns-clause-no_want
returns-clause-no_want g c = λ h. g.met.S.PieceSlots.not_short _ (sym c.take_made.ensures.made ∙ h)
