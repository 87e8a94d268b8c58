-- Runs of the machine: what their steps and outcomes report.
use Rattle.std.specs.Prelude.{◌≡◌, ℕ, ◌≤◌, Bool, true, false, List, [], ◌∷◌, ◌++◌, length, take, if◌then◌else◌, ◌==◌}
use Rattle.std.specs.List.{All}
use Rattle.trace_model.specs.declared.entry.Entry.{Entry}
use Rattle.trace_model.specs.declared.entry.Work.TheVariants as brings
use Rattle.trace_model.specs.declared.limits.Limits.{Limits}
use Rattle.trace_model.specs.declared.refusal.Refusal.TheVariants.{JournalFull, Conflict}
use Rattle.trace_model.specs.Answers.{answer}
use Rattle.schedule_core.specs.declared.step.Step.{Step}
use Rattle.schedule_core.specs.declared.step.Step.TheVariants as ask
use Rattle.schedule_core.specs.declared.outcome.Outcome.{Outcome}
use Rattle.schedule_core.specs.declared.outcome.Outcome.TheVariants.{Put, Taken, Again, Refused, Entered, Answered, Learnt}

-- what each step and its outcome report, one after the other
abbrev pub along : {A : Type 0} → (Step → Outcome → List A) → List Step → List Outcome → List A
along f [] os = []
along f (s ∷ ss) [] = []
along f (s ∷ ss) (o ∷ os) = f s o ++ along f ss os

-- it holds of each step and its outcome
abbrev pub AllAlong : (Step → Outcome → Type 0) → List Step → List Outcome → Type 0
AllAlong P [] os = Unit {0}
AllAlong P (s ∷ ss) [] = Unit {0}
AllAlong P (s ∷ ss) (o ∷ os) = P s o × AllAlong P ss os

-- ---- jobs

-- the job that was submitted
abbrev pub job_of : Step → Outcome → List Entry
job_of (ask.Put seat batch) (Put number) = record { seat = seat; number = number; work = brings.Batch batch } ∷ []
job_of (ask.Limit seat n) (Put number) = record { seat = seat; number = number; work = brings.TraceLimit n } ∷ []
job_of s o = []

-- a job was taken and accepted; or its batch was sent before, or it was refused
abbrev pub verdict_of : Step → Outcome → List Bool
verdict_of s (Taken seat number) = true ∷ []
verdict_of s (Again seat number place) = false ∷ []
verdict_of s (Refused (JournalFull batches spans)) = false ∷ []
verdict_of s (Refused (Conflict place)) = false ∷ []
verdict_of s o = []

-- those with a verdict that is true
abbrev pub kept : List Entry → List Bool → List Entry
kept [] vs = []
kept (j ∷ js) [] = []
kept (j ∷ js) (true ∷ vs) = j ∷ kept js vs
kept (j ∷ js) (false ∷ vs) = kept js vs

-- the seat and the number that name a job
abbrev pub name_of : Entry → ℕ × ℕ
name_of e = (e.seat, e.number)

-- those by which a job is reported that was taken and accepted
abbrev pub reported_by : Step → Outcome → List (ℕ × ℕ)
reported_by s (Taken seat number) = (seat, number) ∷ []
reported_by s o = []

-- the numbers of a seat's jobs
abbrev pub numbers_of : ℕ → List Entry → List ℕ
numbers_of seat [] = []
numbers_of seat (j ∷ js) = if j.seat == seat then j.number ∷ numbers_of seat js else numbers_of seat js

-- ---- readers

-- the step is this reader's
abbrev pub is_of : ℕ → Step → Bool
is_of r (ask.Enter s) = s == r
is_of r (ask.Read s query) = s == r
is_of r (ask.Learn s publish) = s == r
is_of r (ask.Leave s) = s == r
is_of r s = false

abbrev pub front_in : Outcome → List ℕ
front_in (Entered front) = front ∷ []
front_in (Answered front answer) = front ∷ []
front_in (Learnt front) = front ∷ []
front_in o = []

-- the front that is reported to the reader
abbrev pub front_for : ℕ → Step → Outcome → List ℕ
front_for r s o = if is_of r s then front_in o else []

abbrev pub NeverFalls : List ℕ → Type 0
NeverFalls [] = Unit {0}
NeverFalls (n ∷ ns) = All (λ k. n ≤ k) ns × NeverFalls ns

-- an answer is the plain store's for the first entries of the history, as many as the front says
abbrev pub IsOf : Limits → List Entry → Step → Outcome → Type 0
IsOf limits h (ask.Read r query) (Answered front a) = (front ≤ length h) × (a ≡ answer limits (take front h) query)
IsOf limits h s o = Unit {0}
