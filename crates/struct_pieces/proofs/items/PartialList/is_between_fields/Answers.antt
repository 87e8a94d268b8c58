use Rattle.struct_pieces.proofs.ItemSteps.{item-short}
use Rattle.struct_pieces.proofs.items.PartialList.is_between_fields.Goals as goal

pub returns-in-Some : goal.returns-in-Some
returns-in-Some g c = record { wants = λ is w part. rw c.in-Some.is (item-short g.P.Item.reads _ _ _ w (c.is_between_fields.ensures.wants is w part)) }
