-- The value of the clerk, and the effect of a turn.
use Rattle.std.specs.Prelude.{◌≡◌, ℕ, List, [], ◌∷◌, ◌++◌, length, Result, Ok, Err}
use Rattle.atomic_table.specs.Seated.{TableId}
use Rattle.trace_model.specs.declared.entry.Entry.{Entry}
use Rattle.trace_model.specs.declared.limits.Limits.{Limits}
use Rattle.trace_model.specs.declared.refusal.Refusal.{Refusal}
use Rattle.read_side.specs.Keepers.{Lists, admit_call, Answers}
use Rattle.intake.specs.declared.account.Account.{Account}
use Rattle.intake.specs.declared.clerk.Turn.{Turn}
use Rattle.intake.specs.declared.clerk.Turn.TheVariants.{Idle, Served, Ended}
use Rattle.intake.specs.declared.queue.QueueView.{QueueView}
use Rattle.intake.specs.declared.queue.EndedSeat.{EndedSeat}
use Rattle.intake.specs.Queues.{AreWhole}

-- the clerk's end of the queue: its desk, all that was taken, and what ended seats submitted
pub record InboxValue : Type 0 where
  pub desk : TableId
  pub taken : List Entry
  pub ended : List EndedSeat

abbrev pub inbox_value : TableId → QueueView → InboxValue
inbox_value desk v = record { desk = desk; taken = v.taken; ended = v.ended }

-- the clerk: its end of the queue, and its accounts
pub record ClerkValue : Type 0 where
  pub desk : TableId
  pub taken : List Entry
  pub ended : List EndedSeat
  pub accounts : List Account

abbrev pub clerk_value : InboxValue → List Account → ClerkValue
clerk_value i accounts = record { desk = i.desk; taken = i.taken; ended = i.ended; accounts = accounts }

-- nothing was taken
abbrev pub IsNewInbox : InboxValue → Type 0
IsNewInbox i = (i.taken ≡ []) × (i.ended ≡ [])

abbrev pub IsNewClerk : ClerkValue → Type 0
IsNewClerk c = (c.taken ≡ []) × (c.ended ≡ []) × (c.accounts ≡ [])

-- at one moment nothing was queued: all that the ended seats submitted had been taken
abbrev pub WasEmpty : List EndedSeat → List Entry → Type 0
WasEmpty ended taken = (items : List Entry) × (length items ≡ 0) × AreWhole ended (taken ++ items)

-- each account is of its job
abbrev pub Accounted : List Entry → List Account → Type 0
Accounted [] [] = Unit {0}
Accounted (j ∷ js) (a ∷ rest) = (a.seat ≡ j.seat) × (a.number ≡ j.number) × Accounted js rest
Accounted _ _ = ⊥

-- only the place, or the refusal
abbrev pub place_or_refusal : {A B : Type 0} → (A → ℕ) → (B → Refusal) → Result A B → Result ℕ Refusal
place_or_refusal place why (Ok a) = Ok (place a)
place_or_refusal place why (Err d) = Err (why d)

abbrev pub account_of : Entry → Result ℕ Refusal → Account
account_of job answer = record { seat = job.seat; number = job.number; answer = answer }

-- one job was taken and has its account
abbrev pub with_account : ClerkValue → Entry → Result ℕ Refusal → ClerkValue
with_account c job answer =
    record c { taken = c.taken ++ job ∷ []; accounts = c.accounts ++ account_of job answer ∷ [] }

-- the clerk and the lists of the keeper, before or after a turn
pub record TurnState : Type 0 where
  pub clerk : ClerkValue
  pub lists : Lists

abbrev pub turn_state : ClerkValue → Lists → TurnState
turn_state clerk lists = record { clerk = clerk; lists = lists }

-- a job, by its seat and its number there
pub record JobId : Type 0 where
  pub seat : ℕ
  pub number : ℕ

abbrev pub job_id : ℕ → ℕ → JobId
job_id seat number = record { seat = seat; number = number }

-- this job was taken, and judged as one call of admit does
abbrev pub ServesJob : Limits → TurnState → TurnState → JobId → Type 0
ServesJob limits before after id =
    (job : Entry) × (answer : Result ℕ Refusal) × (job.seat ≡ id.seat) × (job.number ≡ id.number)
    × (after.clerk ≡ with_account before.clerk job answer)
    × Answers (admit_call limits before.lists job after.lists) answer

-- a job was served
abbrev pub IfServed : Result Turn Refusal → (JobId → Type 0) → Type 0
IfServed (Ok (Served seat number)) P = P (job_id seat number)
IfServed (Ok Idle) P = Unit {0}
IfServed (Ok Ended) P = Unit {0}
IfServed (Err why) P = Unit {0}

-- no job was served
abbrev pub IfNotServed : Result Turn Refusal → Type 0 → Type 0
IfNotServed (Ok (Served seat number)) P = Unit {0}
IfNotServed (Ok Idle) P = P
IfNotServed (Ok Ended) P = P
IfNotServed (Err why) P = P

-- the turn found no job
abbrev pub IfNoJob : Result Turn Refusal → Type 0 → Type 0
IfNoJob (Ok (Served seat number)) P = Unit {0}
IfNoJob (Ok Idle) P = P
IfNoJob (Ok Ended) P = P
IfNoJob (Err why) P = Unit {0}
