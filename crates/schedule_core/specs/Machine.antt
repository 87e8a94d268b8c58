-- The stepped machine. It has no copies, indexes or threads.
use Rattle.std.specs.Prelude.{ℕ, ◌+◌, ◌-◌, Bool, true, false, List, [], ◌∷◌, ◌++◌, length, take, Option, Some, None, Result, Ok, Err, slice_set, replicate}
use Rattle.std.specs.Prelude.{if◌then◌else◌, nat_lt, nat_le, slice_get}
use Rattle.std.specs.List.{position}
use Rattle.std.specs.Option.{option_map_or}
use Rattle.trace_model.specs.declared.admission.Admission.{Admission}
use Rattle.trace_model.specs.declared.admission.Admission.TheVariants.{Added, Resent}
use Rattle.trace_model.specs.declared.entry.Entry.{Entry}
use Rattle.trace_model.specs.declared.entry.Work.{Work}
use Rattle.trace_model.specs.declared.entry.Work.TheVariants as brings
use Rattle.trace_model.specs.declared.limits.Limits.{Limits}
use Rattle.trace_model.specs.declared.query.Query.{Query}
use Rattle.trace_model.specs.declared.refusal.Refusal.{Refusal}
use Rattle.trace_model.specs.declared.refusal.Refusal.TheVariants.{JournalFull}
use Rattle.trace_model.specs.Histories.{span_count}
use Rattle.trace_model.specs.ResentBatches.{sent_before}
use Rattle.trace_model.specs.Refusals.{has_room, repeated}
use Rattle.trace_model.specs.Answers.{answer}
use Rattle.trace_model.specs.declared.trace_limit.TheConstants.TraceLimit as TraceLimit
use Rattle.schedule_core.specs.declared.readers.TheConstants.{READERS}
use Rattle.schedule_core.specs.declared.seats.TheConstants.{SEATS}
use Rattle.schedule_core.specs.declared.step.Step.{Step}
use Rattle.schedule_core.specs.declared.step.Step.TheVariants as ask
use Rattle.schedule_core.specs.declared.outcome.Outcome.{Outcome}
use Rattle.schedule_core.specs.declared.outcome.Outcome.TheVariants.{Put, Taken, Again, Refused, Idle, Published, Held, Entered, Answered, Learnt, Left, Inside}
use Rattle.schedule_core.specs.declared.outcome.Outcome.TheVariants.{Outside, Unknown}

-- the list that a reader entered, and the number of publishes at that time
pub record Visit : Type 0 where
  pub list : List Entry
  pub publishes : ℕ

-- the longest list that a reader has seen, and its visit while it is inside
pub record Reader : Type 0 where
  pub seen : List Entry
  pub inside : Option Visit

-- Jobs wait and are moved to pending; a publish makes the history of history and pending. The front of a publish is
-- the number of entries of the history at that time. A seat's last number is 0 at first.
pub record Machine : Type 0 where
  pub limits : Limits
  pub waiting : List Entry
  pub pending : List Entry
  pub history : List Entry
  pub fronts : List ℕ
  pub numbers : List ℕ
  pub readers : List Reader

abbrev pub new_machine : Limits → Machine
new_machine limits = record {
  limits = limits;
  waiting = [];
  pending = [];
  history = [];
  fronts = [];
  numbers = replicate SEATS 0;
  readers = replicate READERS (record { seen = []; inside = None });
}

pub record Stepped : Type 0 where
  pub outcome : Outcome
  pub machine : Machine

-- nothing has changed
abbrev pub stays : Machine → Outcome → Stepped
stays m o = record { outcome = o; machine = m }

-- what is accepted: history and pending
abbrev pub accepted : Machine → List Entry
accepted m = m.history ++ m.pending

-- ---- jobs

abbrev pub with_submitted : Machine → ℕ → Work → ℕ → Stepped
with_submitted m seat work number = record {
  outcome = Put number;
  machine = record m { waiting = m.waiting ++ record { seat = seat; number = number; work = work } ∷ []; numbers = slice_set m.numbers seat number };
}

-- by the seat's last number, if there is such a seat
abbrev pub puts : Machine → ℕ → Work → Option ℕ → Stepped
puts m seat work None = stays m Unknown
puts m seat work (Some last) = if nat_lt last 18446744073709551615 then with_submitted m seat work (last + 1) else stays m Unknown

-- a limit above the greatest one does nothing
abbrev pub limits_by : Machine → ℕ → ℕ → Option ℕ → Stepped
limits_by m seat n last = if nat_le n TraceLimit.MAX then puts m seat (brings.TraceLimit n) last else stays m Unknown

abbrev pub full : Machine → Refusal
full m = JournalFull (length (accepted m)) (span_count (accepted m))

-- the first job is dropped
abbrev pub drops : Machine → List Entry → Outcome → Stepped
drops m rest o = record { outcome = o; machine = record m { waiting = rest } }

-- the first job goes to pending if no limit is passed by history and pending with it, and is dropped otherwise
abbrev pub judged_job : Machine → Entry → List Entry → Bool → Stepped
judged_job m job rest true = record { outcome = Taken job.seat job.number; machine = record m { waiting = rest; pending = m.pending ++ job ∷ [] } }
judged_job m job rest false = drops m rest (Refused (full m))

-- the outcome that reports what has become of a job
abbrev pub outcome_by : Entry → Result Admission Refusal → Outcome
outcome_by job (Ok Added) = Taken job.seat job.number
outcome_by job (Ok (Resent place)) = Again job.seat job.number place
outcome_by job (Err why) = Refused why

-- a job whose batch was sent before, with this number of entries before it, is dropped; any other one is judged by
-- the limits
abbrev pub takes_by : Machine → Entry → List Entry → Option ℕ → Stepped
takes_by m job rest (Some before) = drops m rest (outcome_by job (repeated (accepted m) job before))
takes_by m job rest None = judged_job m job rest (has_room m.limits (accepted m) job)

-- by the jobs that wait
abbrev pub takes : Machine → List Entry → Stepped
takes m [] = stays m Idle
takes m (job ∷ rest) = takes_by m job rest (sent_before (accepted m) job)

-- ---- publishes

-- the reader has been inside since before the last of n publishes
abbrev pub holds : ℕ → Reader → Bool
holds publishes reader = option_map_or (λ (v : Visit). nat_lt v.publishes publishes) reader.inside false

abbrev pub published : Machine → Machine
published m = record m { history = accepted m; pending = []; fronts = m.fronts ++ length (accepted m) ∷ [] }

-- by the first reader that holds it, if one does
abbrev pub publishes_by : Machine → Option ℕ → Stepped
publishes_by m (Some first) = stays m (Held first)
publishes_by m None = record { outcome = Published (length (accepted m)); machine = published m }

abbrev pub publishes : Machine → Stepped
publishes m = publishes_by m (position (holds (length m.fronts)) m.readers)

-- ---- readers

abbrev pub with_reader : Machine → ℕ → Reader → Machine
with_reader m r reader = record m { readers = slice_set m.readers r reader }

abbrev pub enters : Machine → ℕ → Option Visit → Stepped
enters m r (Some v) = stays m Inside
enters m r None = record {
  outcome = Entered (length m.history);
  machine = with_reader m r (record { seen = m.history; inside = Some (record { list = m.history; publishes = length m.fronts }) });
}

abbrev pub reads : Machine → Query → Option Visit → Stepped
reads m query None = stays m Outside
reads m query (Some v) = stays m (Answered (length v.list) (answer m.limits v.list query))

abbrev pub longer : List Entry → List Entry → List Entry
longer a b = if nat_le (length a) (length b) then b else a

abbrev pub learns_list : Machine → ℕ → List Entry → Stepped
learns_list m r list = record { outcome = Learnt (length list); machine = with_reader m r (record { seen = list; inside = None }) }

abbrev pub learns : Machine → ℕ → Reader → ℕ → Stepped
learns m r reader front = option_map_or (λ v. stays m Inside) reader.inside (learns_list m r (longer reader.seen (take front m.history)))

abbrev pub leaves : Machine → ℕ → Reader → Stepped
leaves m r reader = option_map_or (λ v. record { outcome = Left; machine = with_reader m r (record reader { inside = None }) }) reader.inside (stays m Outside)

-- a reader's step, if there is such a reader
abbrev pub by_reader : Machine → ℕ → (Reader → Stepped) → Stepped
by_reader m r then_do = option_map_or then_do (slice_get m.readers r) (stays m Unknown)

-- the front of a publish, counted from 1
abbrev pub front_of : Machine → ℕ → Option ℕ
front_of m k = if nat_lt 0 k then slice_get m.fronts (k - 1) else None

-- ---- steps

abbrev pub step : Machine → Step → Stepped
step m (ask.Put seat batch) = puts m seat (brings.Batch batch) (slice_get m.numbers seat)
step m (ask.Limit seat n) = limits_by m seat n (slice_get m.numbers seat)
step m ask.Take = takes m m.waiting
step m ask.Publish = publishes m
step m (ask.Enter r) = by_reader m r (λ reader. enters m r reader.inside)
step m (ask.Read r query) = by_reader m r (λ reader. reads m query reader.inside)
step m (ask.Learn r k) = by_reader m r (λ reader. option_map_or (learns m r reader) (front_of m k) (stays m Unknown))
step m (ask.Leave r) = by_reader m r (leaves m r)

-- the outcomes of a list of steps
abbrev pub outcomes : Machine → List Step → List Outcome
outcomes m [] = []
outcomes m (s ∷ ss) = (step m s).outcome ∷ outcomes (step m s).machine ss

abbrev pub at_last : Machine → List Step → Machine
at_last m [] = m
at_last m (s ∷ ss) = at_last (step m s).machine ss
