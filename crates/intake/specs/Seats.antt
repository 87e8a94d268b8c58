-- The values of seats, jobs and tickets.
use Rattle.std.specs.Prelude.{◌≡◌, ℕ, ◌+◌, ◌-◌, ◌<◌, ◌^◌, ◌⊎◌, Bool, true, false, List, [], ◌∷◌, ◌++◌, length}
use Rattle.atomic_table.specs.Seated.{TableId}
use Rattle.crossbeam_queue.specs.Passes.{Pass, view}
use Rattle.trace_model.specs.declared.entry.Entry.{Entry}
use Rattle.trace_model.specs.declared.entry.Work.{Work}
use Rattle.trace_model.specs.declared.refusal.Refusal.{Refusal}
use Rattle.trace_model.specs.declared.refusal.Refusal.TheVariants.{JournalFull, Stale, NoMemory, Deferred, Busy, Closed, NoReply, Conflict}
use Rattle.intake.specs.declared.queue.QueueView.{QueueView}
use Rattle.intake.specs.Queues.{jobs_of}

-- a seat: its desk, the number of jobs that the queue has room for, the seat's number, the jobs that it submitted,
-- and whether it may submit more
pub record SeatValue : Type 0 where
  pub desk : TableId
  pub capacity : ℕ
  pub seat : ℕ
  pub jobs : List Entry
  pub may_submit : Bool

abbrev pub seat_value : TableId → ℕ → ℕ → QueueView → SeatValue
seat_value desk capacity number v =
    record { desk = desk; capacity = capacity; seat = number; jobs = v.submitted; may_submit = v.submits }

-- a seat of this desk that has submitted nothing yet
abbrev pub IsNewSeat : TableId → ℕ → SeatValue → Type 0
IsNewSeat desk capacity s =
    (s.desk ≡ desk) × (s.capacity ≡ capacity) × (s.jobs ≡ []) × (s.may_submit ≡ true)

-- the entry that the seat makes of the work: it has the seat's next number, counted from 1
abbrev pub next_job : SeatValue → Work → Entry
next_job s w = record { seat = s.seat; number = length s.jobs + 1; work = w }

-- one more job was submitted
abbrev pub with_job : SeatValue → Entry → SeatValue
with_job s e = record s { jobs = s.jobs ++ e ∷ [] }

-- at one moment the queue was full; with what was taken before, it had all jobs of this seat
abbrev pub WasFull : SeatValue → Type 0
WasFull s = (items : List Entry) × (length items ≡ s.capacity)
    × (taken : List Entry) × (jobs_of s.seat (taken ++ items) ≡ s.jobs)

-- the seat has not ended, and has a number left
abbrev pub HasNextNumber : SeatValue → Type 0
HasNextNumber s = (s.may_submit ≡ true) × (length s.jobs < 2 ^ 64 - 1)

-- the refusal of a submission, by the seat: why no job was queued; a seat that has ended, or has no number left, only says
-- that the desk is closed
abbrev pub IsNotQueued : SeatValue → Refusal → Type 0
IsNotQueued s why =
    (why ≡ Closed)
    ⊎ ((why ≡ NoMemory) × HasNextNumber s)
    ⊎ ((why ≡ Busy) × HasNextNumber s × WasFull s)

-- the refusal of a queued job, by its kind alone: the keeper's, or that of a clerk which ended without judging the job
abbrev pub IsUnacknowledged : Refusal → Type 0
IsUnacknowledged (JournalFull batches spans) = Unit {0}
IsUnacknowledged (Stale last) = Unit {0}
IsUnacknowledged NoMemory = Unit {0}
IsUnacknowledged Deferred = Unit {0}
IsUnacknowledged Closed = Unit {0}
IsUnacknowledged NoReply = Unit {0}
IsUnacknowledged (Conflict place) = Unit {0}
IsUnacknowledged _ = ⊥

-- a seat's right to submit, and its list
abbrev pub IsEndOf : {A : Type 0} → SeatValue → Pass A QueueView → Type 0
IsEndOf s e =
    (e.table_id ≡ s.desk) × (e.me.1 ≡ [])
    × ((view e).submits ≡ true) × ((view e).takes ≡ false)
    × ((view e).seat ≡ s.seat) × ((view e).submitted ≡ s.jobs)
