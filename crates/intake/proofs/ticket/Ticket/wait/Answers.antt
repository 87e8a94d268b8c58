use Rattle.intake.proofs.ticket.Ticket.wait.Goals as goal

pub returns-in-Err-clause-denied : goal.returns-in-Err-clause-denied
returns-in-Err-clause-denied g c = (c.in-Err.denial.list, c.in-Err.ensures.denied)
