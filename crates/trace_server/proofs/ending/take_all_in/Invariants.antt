use Rattle.std.proofs.Common.{◌≡◌, length, map}
use Rattle.std.specs.Arc.{arc_value}
use Rattle.intake.specs.Books.{Balances}
use Rattle.trace_server.specs.WorkerSeats.{AreOpen, MovesJobs}
use Rattle.trace_server.proofs.Workers.{SomeTakenIn}
use Rattle.trace_server.proofs.ending.take_all_in.Given as goal

abbrev pub invariant-loop-live : goal.invariant-loop-live
invariant-loop-live g l = AreOpen l.books.inbox.desk (map (λ w. w.live.seat) l.workers.items)
    × Balances l.books.inbox.taken l.books.accounts (map arc_value l.books.unjudged.items)
    × MovesJobs l.fn.books.inbox.taken (map arc_value l.fn.books.unjudged.items) l.books.inbox.taken (map arc_value l.books.unjudged.items)
    × SomeTakenIn (map (λ w. w.live.seat) l.fn.workers.items) (map (λ w. w.live.seat) l.workers.items) l.books.inbox.ended l.books.inbox.taken
    × (l.books.accounts ≡ l.fn.books.accounts) × (l.books.acknowledged ≡ l.fn.books.acknowledged) × (l.books.refused ≡ l.fn.books.refused)

abbrev pub decreases-loop-live : goal.decreases-loop-live
decreases-loop-live g l = length l.workers.items
