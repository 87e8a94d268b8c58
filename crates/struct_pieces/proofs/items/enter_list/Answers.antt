use Rattle.struct_pieces.proofs.items.enter_list.Goals as goal

pub returns-in-Err-clause-continues : goal.returns-in-Err-clause-continues
returns-in-Err-clause-continues g c = c.in-Err.ensures.continues

pub returns-in-Ok-None-clause-continues : goal.returns-in-Ok-None-clause-continues
returns-in-Ok-None-clause-continues g c = rw c.in-Ok-None.field-0-is at c.in-Ok-None.ensures.continues

pub returns-in-Ok-Some-clause-continues : goal.returns-in-Ok-Some-clause-continues
returns-in-Ok-Some-clause-continues g c =
    let h = rw c.in-Ok-Some.field-0-is at c.in-Ok-Some.ensures.continues in
    (c.in-Ok-Some.part, c.held.result, c.held.ensures, c.hold_next.ensures, h.0, h.1)
