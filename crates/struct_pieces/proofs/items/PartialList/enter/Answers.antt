use Rattle.struct_pieces.proofs.ItemSteps.{head-none}
use Rattle.struct_pieces.proofs.items.PartialList.enter.Goals as goal

pub returns-then-size-eq0-clause-continues : goal.returns-then-size-eq0-clause-continues
returns-then-size-eq0-clause-continues g c = rw c.new.ensures.items (head-none g.P.Item.reads _ _ _ c.if-size-eq0.true)
