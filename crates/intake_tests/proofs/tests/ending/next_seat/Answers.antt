use Rattle.std.proofs.lemmas.List.Elements.{All-pop}
use Rattle.intake.specs.Seats.{IsNewSeat}
use Rattle.intake_tests.proofs.tests.ending.next_seat.Goals as goal

pub returns-clause-rest : goal.returns-clause-rest
returns-clause-rest g c = (All-pop (IsNewSeat c.args.clerk.now.desk 8) _ _ _ c.pop.ensures.items c.requires).0

pub returns-clause-seat : goal.returns-clause-seat
returns-clause-seat g c = (All-pop (IsNewSeat c.args.clerk.now.desk 8) _ _ _ c.pop.ensures.items c.requires).1
