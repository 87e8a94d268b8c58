-- The rule of the queue: what is queued, what was taken, and what each seat and the clerk know of it.
use Rattle.std.specs.Prelude.{◌≡◌, ℕ, ◌+◌, ◌==◌, ◌<◌, true, false, List, [], ◌∷◌, ◌++◌, filter, length, slice_index}
use mathlib.Core.Option.{Option, some, none}
use lib.ListN.{get_elem?}
use Rattle.trace_model.specs.declared.entry.Entry.{Entry}
use Rattle.intake.specs.declared.queue.QueueView.{QueueView}
use Rattle.intake.specs.declared.queue.EndedSeat.{EndedSeat}

-- the jobs of a seat, in order
abbrev pub jobs_of : ℕ → List Entry → List Entry
jobs_of seat jobs = filter (λ (j : Entry). j.seat == seat) jobs

-- the jobs have the numbers n, n + 1 and so on
abbrev pub CountUp : ℕ → List Entry → Type 0
CountUp n [] = Unit {0}
CountUp n (j ∷ js) = (j.number ≡ n) × CountUp (n + 1) js

-- for each seat, its jobs among these are numbered from 1 on
abbrev pub AllCountUp : List Entry → Type 0
AllCountUp jobs = (s : ℕ) → CountUp 1 (jobs_of s jobs)

-- this number of seats was made, and for each one this is the number of its last job among the jobs, 0 if it has
-- none
pub record AreLast (made : ℕ) (jobs : List Entry) (numbers : List ℕ) : Type 0 where
  pub one_for_each : length numbers ≡ made
  pub counted : AllCountUp jobs
  pub each : (s : ℕ) → slice_index numbers s ≡ length (jobs_of s jobs)

abbrev pub ended_seat : ℕ → List Entry → EndedSeat
ended_seat seat jobs = record { seat = seat; jobs = jobs }

-- the view of the one pass of a new queue, which takes and has made no seat
abbrev pub first_view : QueueView
first_view = record { submits = false; takes = true; seat = 0; made = 0; submitted = []; taken = []; ended = [] }

-- a view that submits is the only one of its seat, and its list is the seat's
abbrev pub FitsSeat : (ℕ → Option ℕ) → (ℕ → List Entry) → ℕ → QueueView → Type 0
FitsSeat holder submitted pass v =
    v.submits ≡ true → (holder v.seat ≡ some pass) × (v.submitted ≡ submitted v.seat)

-- these seats were made, no view is of them any more, and these jobs are theirs
abbrev pub AreEnded : (ℕ → Option ℕ) → (ℕ → List Entry) → ℕ → List EndedSeat → Type 0
AreEnded holder submitted made [] = Unit {0}
AreEnded holder submitted made (k ∷ ks) =
    ((k.seat < made) × (holder k.seat ≡ none) × (submitted k.seat ≡ k.jobs))
    × AreEnded holder submitted made ks

-- seats that were not made have no view and no job
abbrev pub NotYetMade : (ℕ → Option ℕ) → (ℕ → List Entry) → ℕ → Type 0
NotYetMade holder submitted made = (s : ℕ) → made < s + 1 → (holder s ≡ none) × (submitted s ≡ [])

-- only one view takes: its list is all that was taken, and it knows which seats were made and which have ended
abbrev pub FitsClerk : ℕ → (ℕ → Option ℕ) → (ℕ → List Entry) → List Entry → ℕ → QueueView → Type 0
FitsClerk clerk holder submitted taken pass v =
    v.takes ≡ true → (pass ≡ clerk) × (v.taken ≡ taken)
    × NotYetMade holder submitted v.made × AreEnded holder submitted v.made v.ended

-- for each seat its jobs taken, followed by those queued, are the jobs that it submitted, numbered from 1 on
abbrev pub Balanced : List Entry → List QueueView → Type 0
Balanced items views =
    (clerk : ℕ) × (holder : ℕ → Option ℕ) × (submitted : ℕ → List Entry) × (taken : List Entry)
    × ((s : ℕ) → jobs_of s (taken ++ items) ≡ submitted s)
    × ((s : ℕ) → CountUp 1 (submitted s))
    × ((pass : ℕ) (v : QueueView) → get_elem? views pass ≡ some v
    → FitsSeat holder submitted pass v × FitsClerk clerk holder submitted taken pass v)

-- ---- what a step does to the view of the one who makes it

-- the job is added at the end of the seat's list
abbrev pub PutsJob : QueueView → Entry → QueueView → Type 0
PutsJob v j w = w ≡ record v { submitted = v.submitted ++ j ∷ [] }

-- the job is added at the end of what was taken; it is of a seat that was made, and has that seat's next number
abbrev pub TakesJob : QueueView → Entry → QueueView → Type 0
TakesJob v j w =
    (w ≡ record v { taken = v.taken ++ j ∷ [] }) × (j.seat < v.made) × AllCountUp (v.taken ++ j ∷ [])

-- a seat was made
abbrev pub one_more : QueueView → QueueView
one_more v = record v { made = v.made + 1 }

abbrev pub new_seat : QueueView → QueueView
new_seat v = record { submits = true; takes = false; seat = v.made; made = 0; submitted = []; taken = []; ended = [] }

-- the right to submit is gone, the list stays
abbrev pub retired : QueueView → QueueView
retired v = record v { submits = false }

-- the view of a right to submit that was given up
abbrev pub spent : QueueView
spent = record { submits = false; takes = false; seat = 0; made = 0; submitted = []; taken = []; ended = [] }

-- a seat was taken in
abbrev pub took_in : QueueView → QueueView → QueueView
took_in v w = record v { ended = ended_seat w.seat w.submitted ∷ v.ended }

-- ---- what a step says of the queue

-- after some jobs that were taken, these queued ones end with all that the seat submitted
abbrev pub IsQueued : QueueView → List Entry → Type 0
IsQueued v items = (taken : List Entry) × (jobs_of v.seat (taken ++ items) ≡ v.submitted)

-- for each ended seat these are just the jobs that it submitted, numbered from 1 on
abbrev pub AreWhole : List EndedSeat → List Entry → Type 0
AreWhole [] jobs = Unit {0}
AreWhole (k ∷ ks) jobs = ((jobs_of k.seat jobs ≡ k.jobs) × CountUp 1 k.jobs) × AreWhole ks jobs

-- what was taken, followed by these queued ones, has all jobs of the ended seats
abbrev pub Waiting : QueueView → List Entry → Type 0
Waiting v items = AreWhole v.ended (v.taken ++ items)
