-- The machine over two copies.
use Rattle.std.specs.Prelude.{ℕ, ◌≤◌, List, ◌++◌, length, map, Result}
use Rattle.std.specs.List.{All}
use Rattle.trace_model.specs.declared.admission.Admission.{Admission}
use Rattle.trace_model.specs.declared.entry.Entry.{Entry}
use Rattle.trace_model.specs.declared.refusal.Refusal.{Refusal}
use Rattle.schedule_core.specs.declared.outcome.Outcome.{Outcome}
use Rattle.schedule_core.specs.declared.readers.ReaderState.{ReaderState}
use Rattle.schedule_core.specs.Machine.{Machine, outcome_by}
use Rattle.schedule_core.specs.JobNumbers.{IsNumbered}
use Rattle.schedule_core.specs.CopiedLists.{Copied, after_admission}
use Rattle.schedule_core.specs.WaitingJobs.{Queued}
use Rattle.schedule_core.specs.ReaderStates.{Stands, reader_at}

-- the machine that this state represents
abbrev pub machine_of : Copied → Queued → List ℕ → List ReaderState → Machine
machine_of c q fronts places = record {
  limits = c.limits;
  waiting = q.waiting;
  pending = c.pending;
  history = c.history;
  fronts = fronts;
  numbers = q.numbers;
  readers = map (reader_at c.history) places;
}

pub record IsState (c : Copied) (q : Queued) (fronts : List ℕ) (places : List ReaderState) : Type 0 where
  pub numbered : IsNumbered (c.history ++ c.pending) q.waiting q.numbers
  pub within : All (λ f. f ≤ length c.history) fronts
  pub standing : All (Stands c.before c.history (length fronts)) places

-- the outcome of a job, and the copies after it
pub record Verdict : Type 0 where
  pub outcome : Outcome
  pub copies : Copied

-- by what becomes of it after all that is accepted
abbrev pub verdict : Copied → Entry → Result Admission Refusal → Verdict
verdict c e answer = record { outcome = outcome_by e answer; copies = after_admission c e answer }
