use Rattle.std.proofs.Common.{◌≡◌, ◌⊎◌, true, map}
use Rattle.std.specs.Arc.{arc_value}
use Rattle.intake.specs.Books.{Balances, HasEnded}
use Rattle.intake_tests.proofs.tests.ending.take_in.Given as goal

-- the seat is of the desk of the books, which balance, and it has ended or may submit
abbrev pub invariant-loop : goal.invariant-loop
invariant-loop g l = (goal.iterator-loop g).can_next l.iterator' × (goal.iterator-loop g).is_finite l.iterator'
    × (l.books.inbox.desk ≡ l.initial.books.inbox.desk)
    × (l.books.inbox.desk ≡ l.seat.desk)
    × Balances l.books.inbox.taken l.books.accounts (map arc_value l.books.unjudged.items)
    × ((l.seat.may_submit ≡ true) ⊎ HasEnded l.books.inbox.ended l.seat.seat l.seat.jobs)
