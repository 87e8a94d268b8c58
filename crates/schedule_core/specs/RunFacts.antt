-- What holds of every run of the machine.
use Rattle.std.specs.Prelude.{◌≡◌, ℕ, Bool, List, ◌++◌, length, drop, map, Some, false, slice_get}
use Rattle.std.specs.List.{All, range_with_len}
use mathlib.Core.List.{IsPrefix}
use Rattle.trace_model.specs.declared.entry.Entry.{Entry}
use Rattle.trace_model.specs.declared.limits.Limits.{Limits}
use Rattle.trace_model.specs.declared.query.Query.{Query}
use Rattle.trace_model.specs.Histories.{IsLegal}
use Rattle.schedule_core.specs.declared.step.Step.{Step}
use Rattle.schedule_core.specs.declared.step.Step.TheVariants.{Read}
use Rattle.schedule_core.specs.declared.outcome.Outcome.{Outcome}
use Rattle.schedule_core.specs.Machine.{Machine, Reader, Visit, new_machine, accepted, step, outcomes, at_last}
use Rattle.schedule_core.specs.Runs.{along, AllAlong, IsOf, NeverFalls, front_for, is_of, job_of, kept, name_of, numbers_of, reported_by, verdict_of}
use Rattle.schedule_core.specs.BoundedMachines.{PlaysAs}

-- the machine after the steps, from one in which nothing has happened
abbrev pub led : Limits → List Step → Machine
led limits steps = at_last (new_machine limits) steps

-- the outcomes that the steps determine
abbrev pub determined : Limits → List Step → List Outcome
determined limits steps = outcomes (new_machine limits) steps

-- the jobs that were submitted, and the verdicts on those that were taken
abbrev pub jobs : Limits → List Step → List Entry
jobs limits steps = along job_of steps (determined limits steps)

abbrev pub verdicts : Limits → List Step → List Bool
verdicts limits steps = along verdict_of steps (determined limits steps)

-- the history only grows at its end
abbrev pub Grows : Limits → List Step → Type 0
Grows limits steps = (first rest : List Step) → steps ≡ first ++ rest → IsPrefix (led limits first).history (led limits steps).history

-- a reader inside gets the same answers, whatever others do meanwhile
abbrev pub IsSteady : Limits → List Step → Type 0
IsSteady limits steps = (first others : List Step) (reader : ℕ) (at : Reader) (visit : Visit) (query : Query)
    → steps ≡ first ++ others → slice_get (led limits first).readers reader ≡ Some at → at.inside ≡ Some visit
    → All (λ s. is_of reader s ≡ false) others
    → (step (led limits steps) (Read reader query)).outcome ≡ (step (led limits first) (Read reader query)).outcome

-- a seat's jobs have the numbers from 1 on
abbrev pub CountsFromOne : ℕ → List Entry → Type 0
CountsFromOne seat js = numbers_of seat js ≡ range_with_len 1 (length (numbers_of seat js))

pub record IsRun (limits : Limits) (steps : List Step) : Type 0 where
  -- what readers see
  pub grows : Grows limits steps
  pub answers : AllAlong (IsOf limits (led limits steps).history) steps (determined limits steps)
  pub fronts : (reader : ℕ) → NeverFalls (along (front_for reader) steps (determined limits steps))
  pub steady : IsSteady limits steps
  -- what became of the jobs
  pub accepts : accepted (led limits steps) ≡ kept (jobs limits steps) (verdicts limits steps)
  pub waits : (led limits steps).waiting ≡ drop (length (verdicts limits steps)) (jobs limits steps)
  pub named : map name_of (accepted (led limits steps)) ≡ along reported_by steps (determined limits steps)
  pub counted : (seat : ℕ) → CountsFromOne seat (jobs limits steps)
  pub legal : IsLegal limits (accepted (led limits steps))

-- The outcomes are those of a machine that starts anew, as far as memory allows; what holds of every run holds of
-- the steps up to there.
pub record IsPlayed (limits : Limits) (steps : List Step) (os : List Outcome) : Type 0 where
  pub plays : PlaysAs (new_machine limits) steps os
  pub run : IsRun limits plays.played
