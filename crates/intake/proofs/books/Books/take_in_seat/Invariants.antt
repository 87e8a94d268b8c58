use Rattle.std.proofs.Common.{◌≡◌, ◌<◌, false, length, map}
use Rattle.std.specs.Arc.{arc_value}
use Rattle.intake.specs.Books.{Balances, HasEnded, StillEnded, desk_jobs, MovesFor, has_job}
use Rattle.intake.proofs.books.Books.take_in_seat.Given as goal

abbrev pub invariant-loop : goal.invariant-loop
invariant-loop g l = Balances l.self.inbox.taken l.self.accounts (map arc_value l.self.unjudged.items)
    × HasEnded l.self.inbox.ended l.fn.seat.seat l.fn.seat.jobs
    × StillEnded l.fn.self.inbox.ended l.self.inbox.ended
    × MovesFor l.fn.seat.seat l.fn.seat.jobs (desk_jobs l.fn.self.inbox.taken (map arc_value l.fn.self.unjudged.items))
    (desk_jobs l.self.inbox.taken (map arc_value l.self.unjudged.items))
    × (has_job l.number l.last l.self.inbox.taken ≡ false) × (0 < l.last)
    × (l.self.inbox.desk ≡ l.fn.self.inbox.desk) × (l.self.accounts ≡ l.fn.self.accounts) × (l.self.keeper ≡ l.fn.self.keeper)
    × (l.self.acknowledged ≡ l.fn.self.acknowledged) × (l.self.refused ≡ l.fn.self.refused)
    × (l.number ≡ l.fn.seat.seat) × (l.last ≡ length l.fn.seat.jobs)
