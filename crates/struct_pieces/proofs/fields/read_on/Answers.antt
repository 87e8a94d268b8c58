use Rattle.std.proofs.Common.{◌∙◌, sym}
use Rattle.struct_pieces.proofs.StructSteps.{none-left, fresh-waits}
use Rattle.struct_pieces.proofs.fields.read_on.Goals as goal

pub returns-then-is_empty-clause-continues : goal.returns-then-is_empty-clause-continues
returns-then-is_empty-clause-continues g c =
    let read = rw c.in-Ok-Head.field-0-is at c.in-Ok-Head.ensures.reads in
    fresh-waits g.S.PieceSlots.takes g.S.PieceSlots.resumes _ _ c.args.step.now _ _ c.requires (none-left _ (sym c.is_empty.ensures.empty ∙ c.if-is_empty.true))
    (read.0)
