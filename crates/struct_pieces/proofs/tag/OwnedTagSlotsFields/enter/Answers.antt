use Rattle.std.proofs.Common.{rules, w16}
use Rattle.std.proofs.lemmas.Int.{to_z-of_z}
use mir.Val.{SFits}
use Rattle.struct_pieces.proofs.tag.OwnedTagSlotsFields.enter.Goals as goal

pub returns-clause-continues : goal.returns-clause-continues
returns-clause-continues c =
    let f : SFits w16 c.args.id = search rules in
    simp to_z-of_z at c.enter.ensures.continues
