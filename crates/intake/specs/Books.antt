-- What the clerk returns when it ends.
use Rattle.std.specs.Prelude.{◌≡◌, ℕ, ◌⊎◌, ◌==◌, ◌&&◌, not, Bool, true, false, if◌then◌else◌, List, [], ◌∷◌, ◌++◌, Result, Ok, Err, count_by, is_ok, is_err}
use Rattle.std.specs.List.{list_any}
use Rattle.trace_model.specs.declared.entry.Entry.{Entry}
use Rattle.trace_model.specs.declared.limits.Limits.{Limits}
use Rattle.trace_model.specs.declared.refusal.Refusal.{Refusal}
use Rattle.trace_model.specs.declared.refusal.Refusal.TheVariants.{Deferred}
use Rattle.trace_model.specs.ResentBatches.{is_sent}
use Rattle.read_side.specs.Keepers.{Lists, admit_call, Answers, accepted, no_entries}
use Rattle.read_side.specs.Receipts.{AnsweredAt}
use Rattle.intake.specs.declared.account.Account.{Account}
use Rattle.intake.specs.declared.queue.EndedSeat.{EndedSeat}
use Rattle.intake.specs.Queues.{jobs_of, CountUp}
use Rattle.intake.specs.Turns.{Accounted}

-- these jobs were judged one after the other, with these answers
abbrev pub JudgedInTurn : Limits → Lists → List Entry → List Account → Lists → Type 0
JudgedInTurn limits k [] [] end = end ≡ k
JudgedInTurn limits k (j ∷ js) (a ∷ rest) end =
    (m : Lists) × Answers (admit_call limits k j m) a.answer × JudgedInTurn limits m js rest end
JudgedInTurn limits k _ _ end = ⊥

-- the entry was acknowledged, or it waits for a publish
abbrev pub is_accepted : Result ℕ Refusal → Bool
is_accepted (Ok place) = true
is_accepted (Err Deferred) = true
is_accepted (Err _) = false

-- the entries that a list gained by these jobs, in order: of those that were accepted, the ones that no earlier
-- entry answers for
abbrev pub gained_jobs : List Entry → List Entry → List Account → List Entry
gained_jobs list [] accounts = []
gained_jobs list (j ∷ js) [] = []
gained_jobs list (j ∷ js) (a ∷ rest) =
    if is_accepted a.answer && not (is_sent list j) then j ∷ gained_jobs (list ++ j ∷ []) js rest
    else gained_jobs list js rest

abbrev pub AnsweredIfPlaced : List Entry → Entry → Result ℕ Refusal → Type 0
AnsweredIfPlaced list j (Ok place) = AnsweredAt list place j
AnsweredIfPlaced list j (Err why) = Unit {0}

-- in this list an entry answers for each acknowledged job at its place
abbrev pub AllAnswered : List Entry → List Entry → List Account → Type 0
AllAnswered list [] [] = Unit {0}
AllAnswered list (j ∷ js) (a ∷ rest) = AnsweredIfPlaced list j a.answer × AllAnswered list js rest
AllAnswered list _ _ = ⊥

-- the number of acknowledged jobs
abbrev pub acknowledged : List Account → ℕ
acknowledged accounts = count_by (λ (a : Account). is_ok a.answer) accounts

-- the number of refused jobs
abbrev pub refused : List Account → ℕ
refused accounts = count_by (λ (a : Account). is_err a.answer) accounts

-- all jobs that a clerk has taken, their accounts, and the keeper's lists
pub record RunState : Type 0 where
  pub taken : List Entry
  pub accounts : List Account
  pub lists : Lists

abbrev pub run_state : List Entry → List Account → Lists → RunState
run_state taken accounts lists = record { taken = taken; accounts = accounts; lists = lists }

-- nothing was taken yet, and the store is empty
abbrev pub nothing_run : RunState
nothing_run = run_state [] [] no_entries

-- what the clerk took in this run was judged in turn; each job that it ever took has its account
pub record Ran (limits : Limits) (before after : RunState) : Type 0 where
  pub jobs : List Entry
  pub answers : List Account
  pub taken_is : after.taken ≡ before.taken ++ jobs
  pub accounts_are : after.accounts ≡ before.accounts ++ answers
  pub each : Accounted after.taken after.accounts
  pub in_turn : JudgedInTurn limits before.lists jobs answers after.lists
  pub gained : accepted after.lists ≡ accepted before.lists ++ gained_jobs (accepted before.lists) jobs answers
  pub answered : AllAnswered after.lists.published jobs answers

-- the jobs that were judged, each with its account, followed by those that were not judged
pub record Balances (taken : List Entry) (accounts : List Account) (unjudged : List Entry) : Type 0 where
  pub judged_jobs : List Entry
  pub each : Accounted judged_jobs accounts
  pub taken_is : taken ≡ judged_jobs ++ unjudged

-- the seat's list is among those of the ended ones
abbrev pub HasEnded : List EndedSeat → ℕ → List Entry → Type 0
HasEnded [] seat jobs = ⊥
HasEnded (k ∷ ks) seat jobs = ((k.seat ≡ seat) × (k.jobs ≡ jobs)) ⊎ HasEnded ks seat jobs

-- all that the seat submitted was taken, in order, each job once, numbered from 1 on
abbrev pub AllTaken : ℕ → List Entry → List Entry → Type 0
AllTaken seat jobs taken = (jobs_of seat taken ≡ jobs) × CountUp 1 jobs

-- ---- taking a seat in

-- the seat's job with this number
abbrev pub is_job : ℕ → ℕ → Entry → Bool
is_job seat number j = (j.seat == seat) && (j.number == number)

-- it is one of these
abbrev pub has_job : ℕ → ℕ → List Entry → Bool
has_job seat number jobs = list_any (is_job seat number) jobs

-- each of these was taken while some job of the seat was not
abbrev pub EachNeeded : ℕ → List Entry → List Entry → List Entry → Type 0
EachNeeded seat jobs taken [] = Unit {0}
EachNeeded seat jobs taken (j ∷ js) =
    (AllTaken seat jobs taken → ⊥) × EachNeeded seat jobs (taken ++ j ∷ []) js

-- all jobs that were taken, and those of them that were not judged
pub record DeskJobs : Type 0 where
  pub taken : List Entry
  pub unjudged : List Entry

abbrev pub desk_jobs : List Entry → List Entry → DeskJobs
desk_jobs taken unjudged = record { taken = taken; unjudged = unjudged }

-- these jobs were moved from the queue to those that were not judged, because the seat had jobs there
pub record MovesFor (seat : ℕ) (jobs : List Entry) (before after : DeskJobs) : Type 0 where
  pub moved : List Entry
  pub taken_is : after.taken ≡ before.taken ++ moved
  pub unjudged_is : after.unjudged ≡ before.unjudged ++ moved
  pub needed : EachNeeded seat jobs before.taken moved

-- the seats that had ended are among those that have
abbrev pub StillEnded : List EndedSeat → List EndedSeat → Type 0
StillEnded ended ended' =
    (seat : ℕ) (jobs : List Entry) → HasEnded ended seat jobs → HasEnded ended' seat jobs

-- an ended seat whose jobs had all been taken has no other job among those taken since
abbrev pub StaysTaken : List EndedSeat → List Entry → List Entry → Type 0
StaysTaken ended taken taken' =
    (seat : ℕ) (jobs : List Entry) → HasEnded ended seat jobs → AllTaken seat jobs taken
    → AllTaken seat jobs taken'
