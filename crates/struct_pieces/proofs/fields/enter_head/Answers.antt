use Rattle.std.proofs.Common.{refl}
use Rattle.struct_pieces.specs.declared.fields.Step.TheVariants.{Head}
use Rattle.struct_pieces.proofs.StructSteps.{at-head, head-faults, head-waits}
use Rattle.struct_pieces.proofs.ReadingInPlace.{head-short}
use Rattle.struct_pieces.proofs.fields.enter_head.Goals as goal

pub returns-in-Err-clause-continues : goal.returns-in-Err-clause-continues
returns-in-Err-clause-continues g c =
    rw c.fault_of.ensures (head-faults g.S.PieceSlots.takes g.S.PieceSlots.resumes c.args._slots.now (Head c.new-head.result)
    c.new-head.result _ _ refl c.in-Err.ensures.reads
    (at-head g.S.PieceSlots.takes g.S.PieceSlots.resumes g.met.S.PieceSlots.safe c.args._slots.now c.new-head.result _ c.new-head.ensures.fresh
    (record { same = λ rest. refl })))

pub returns-in-Ok-clause-continues : goal.returns-in-Ok-clause-continues
returns-in-Ok-clause-continues g c = (
  Head c.more.new.self,
  refl,
  head-waits g.S.PieceSlots.takes g.S.PieceSlots.resumes c.args._slots.now (Head c.new-head.result)
      c.new-head.result c.more.new.self _ _ refl
      (head-short c.new-head.result c.more.new.self _ _ c.in-Ok.field-0 c.new-head.ensures.fresh c.requires c.in-Ok.ensures.reads)
      (at-head g.S.PieceSlots.takes g.S.PieceSlots.resumes g.met.S.PieceSlots.safe c.args._slots.now c.new-head.result _ c.new-head.ensures.fresh
      (record { same = λ rest. refl })),
)
