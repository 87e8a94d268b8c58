use Rattle.std.proofs.Common.{rules, refl, w16}
use Rattle.std.proofs.lemmas.Int.{to_z-of_z}
use mir.Val.{SFits}
use Rattle.value_pieces.proofs.CallSteps.{continues-to-after}
use Rattle.struct_pieces.proofs.StructSteps.{head-is-fresh, head-typed, fresh-step}
use Rattle.struct_pieces.proofs.fields.more_fields.Goals as goal

pub read_on-requires : goal.read_on-requires
read_on-requires g c =
    rw c.in-Head.is at (head-is-fresh g.S.PieceSlots.takes g.S.PieceSlots.resumes g.met.S.PieceSlots.safe c.args.step.now _ c.in-Head.is
    (c.is_first.ensures.first c.if-is_first.true))

pub returns-then-is_first-clause-continues : goal.returns-then-is_first-clause-continues
returns-then-is_first-clause-continues g c =
    continues-to-after _ _ _ _ _ _ _ c.read_on.result
    (fresh-step g.S.PieceSlots.takes g.S.PieceSlots.resumes _ c.args.step.now _
    (head-is-fresh g.S.PieceSlots.takes g.S.PieceSlots.resumes g.met.S.PieceSlots.safe c.args.step.now _ c.in-Head.is
    (c.is_first.ensures.first c.if-is_first.true))) c.read_on.ensures.continues

pub returns-in-Ok-Some-Field-clause-continues : goal.returns-in-Ok-Some-Field-clause-continues
returns-in-Ok-Some-Field-clause-continues g c =
    let f : SFits w16 c.in-Ok-Some-Field.id = search rules in
    let continues = simp to_z-of_z at c.hold_field.ensures.continues in
    continues-to-after _ _ _ _ _ _ _ _
    (head-typed g.S.PieceSlots.takes g.S.PieceSlots.resumes _ _ _ _ _ _ _ c.in-Head.is
    (rw (c.in-Ok-Some-Field.field-0-is, c.in-Ok-Some-Field.field-0-0-is) at c.in-Ok-Some-Field.ensures.reads) (record { same = λ rest. refl })) continues
