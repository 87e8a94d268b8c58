-- The workers' seats, before and after their work.
use Rattle.std.specs.Prelude.{◌≡◌, true, List, [], ◌++◌, All}
use Rattle.atomic_table.specs.Seated.{TableId}
use Rattle.trace_model.specs.declared.entry.Entry.{Entry}
use Rattle.trace_model.specs.declared.limits.Limits.{Limits}
use Rattle.intake.specs.declared.books.Books.{Books}
use Rattle.intake.specs.Seats.{SeatValue}
use Rattle.intake.specs.Books.{nothing_run, run_state, Ran, AllTaken, acknowledged, refused}

-- seats of this desk that may submit more
abbrev pub AreOpen : TableId → List SeatValue → Type 0
AreOpen desk seats = All (λ (s : SeatValue). (s.desk ≡ desk) × (s.may_submit ≡ true)) seats

-- seats of this desk that have submitted nothing yet, and may
abbrev pub AreNew : TableId → List SeatValue → Type 0
AreNew desk seats =
    All (λ (s : SeatValue). (s.desk ≡ desk) × (s.may_submit ≡ true) × (s.jobs ≡ [])) seats

-- these books are of a clerk of an empty store: it judged all jobs that it took, which led to the keeper's lists, and the
-- counts are those of its answers
pub record HasJudged {N : Type 0} (limits : Limits) (books : Books N) : Type 0 where
  pub ran : Ran limits nothing_run (run_state books.inbox.taken books.accounts books.keeper)
  pub acknowledged_is : books.acknowledged ≡ acknowledged books.accounts
  pub refused_is : books.refused ≡ refused books.accounts

-- it judged them at this desk, and no job is unjudged
pub record KeepsBooks {N : Type 0} (limits : Limits) (desk : TableId) (books : Books N) : Type 0 where
  pub judged : HasJudged limits books
  pub same_desk : books.inbox.desk ≡ desk
  pub none_left : books.unjudged.items ≡ []

-- these jobs were taken, and none of them was judged
abbrev pub MovesJobs : List Entry → List Entry → List Entry → List Entry → Type 0
MovesJobs taken unjudged taken' unjudged' =
    (moved : List Entry) × (taken' ≡ taken ++ moved) × (unjudged' ≡ unjudged ++ moved)

-- all jobs of the seats were taken
abbrev pub AreSeatsTaken : List Entry → List SeatValue → Type 0
AreSeatsTaken taken seats = All (λ (s : SeatValue). AllTaken s.seat s.jobs taken) seats
