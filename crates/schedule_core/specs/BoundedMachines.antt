-- The machine, as far as memory allows.
use Rattle.std.specs.Prelude.{◌≡◌, ◌⊎◌, List, ◌++◌, length, replicate, Option, Some, None}
use Rattle.trace_model.specs.declared.refusal.Refusal.TheVariants.{NoMemory}
use Rattle.schedule_core.specs.declared.step.Step.{Step}
use Rattle.schedule_core.specs.declared.outcome.Outcome.{Outcome}
use Rattle.schedule_core.specs.declared.outcome.Outcome.TheVariants.{Refused}
use Rattle.schedule_core.specs.Machine.{Machine, step, outcomes}

-- None after memory ran out: then every step is refused for that
abbrev pub Steps : Option Machine → Step → Outcome → Option Machine → Type 0
Steps None s o n = (o ≡ Refused NoMemory) × (n ≡ None)
Steps (Some m) s o n = ((o ≡ (step m s).outcome) × (n ≡ Some (step m s).machine)) ⊎ ((o ≡ Refused NoMemory) × (n ≡ None))

-- the outcomes are the machine's; if memory ran out, those of the steps before, and all others are refused for that
pub record PlaysAs (m : Machine) (steps : List Step) (os : List Outcome) : Type 0 where
  pub played : List Step
  pub rest : List Step
  pub whole : steps ≡ played ++ rest
  pub returned : os ≡ outcomes m played ++ replicate (length rest) (Refused NoMemory)

-- the outcomes are those of a machine in this state, or of one that has run out of memory
abbrev pub PlaysFrom : Option Machine → List Step → List Outcome → Type 0
PlaysFrom now steps os = (m : Machine) → (now ≡ Some m) ⊎ (now ≡ None) → PlaysAs m steps os
