use Rattle.thrift_binary.specs.declared.fault.WireError.TheVariants.{Truncated}
use Rattle.batch_codec.specs.declared.fault.DecodeError.TheVariants.{Wire}
use Rattle.wire_pieces.proofs.ListSteps.{items-waits}
use Rattle.value_pieces.proofs.CallSteps.{continues-to-after}
use Rattle.struct_pieces.proofs.ItemSteps.{items-faults, item-ended}
use Rattle.struct_pieces.proofs.items.PartialList.resume.Goals as goal

pub returns-in-Err-arrive-clause-continues : goal.returns-in-Err-arrive-clause-continues
returns-in-Err-arrive-clause-continues g c = rw c.in-Some.is (items-faults g.P.Item.reads _ _ _ _ _ c.in-Err-arrive.ensures.continues)

pub returns-in-Ok-Pending-clause-continues : goal.returns-in-Ok-Pending-clause-continues
returns-in-Ok-Pending-clause-continues g c =
    rw c.in-Some.is (items-waits g.P.Item.reads (Wire Truncated) _ _ _ _ _ _ (rw c.in-Ok-Pending.field-0-is at c.in-Ok-Pending.ensures.continues))

pub returns-in-Ok-Complete-clause-continues : goal.returns-in-Ok-Complete-clause-continues
returns-in-Ok-Complete-clause-continues g c =
    let arrived = rw c.in-Ok-Complete.field-0-is at c.in-Ok-Complete.ensures.continues in
    rw c.in-Some.is (continues-to-after _ _ _ _ _ _ _ _ (item-ended g.P.Item.reads _ _ _ _ _ _ arrived) c.next_items.ensures.continues)
