use Rattle.value_pieces.proofs.CallSteps.{same-comes, same-waits, same-faults}
use Rattle.struct_pieces.proofs.items.PartialList.begin.Goals as goal

pub returns-in-Err-clause-continues : goal.returns-in-Err-clause-continues
returns-in-Err-clause-continues g c = same-faults _ _ c.new-part.ensures.fresh _ _ c.in-Err.ensures.continues

pub returns-in-Ok-Complete-clause-continues : goal.returns-in-Ok-Complete-clause-continues
returns-in-Ok-Complete-clause-continues g c =
    let h = rw c.in-Ok-Complete.field-0-is at c.in-Ok-Complete.ensures.continues in
    (h.0, h.1, same-comes _ _ c.new-part.ensures.fresh _ _ _ h.2)

pub returns-in-Ok-Pending-clause-continues : goal.returns-in-Ok-Pending-clause-continues
returns-in-Ok-Pending-clause-continues g c =
    let h = rw c.in-Ok-Pending.field-0-is at c.in-Ok-Pending.ensures.continues in
    (same-waits _ _ c.new-part.ensures.fresh _ _ _ h.0, h.1)
