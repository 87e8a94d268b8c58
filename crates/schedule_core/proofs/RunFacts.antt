-- What holds of every run, in one record.
use Rattle.std.proofs.Common.{◌≡◌, ◌⊎◌, List, Option, Some, None, sym, subst}
use mathlib.Core.List.{IsPrefix}
use Rattle.trace_model.specs.declared.limits.Limits.{Limits}
use Rattle.schedule_core.specs.declared.step.Step.{Step}
use Rattle.schedule_core.specs.declared.step.Step.TheVariants.{Read}
use Rattle.schedule_core.specs.declared.outcome.Outcome.{Outcome}
use Rattle.schedule_core.specs.Machine.{Machine, new_machine, step}
use Rattle.schedule_core.specs.BoundedMachines.{PlaysFrom}
use Rattle.schedule_core.specs.RunFacts.{IsRun, IsPlayed, led}
use Rattle.schedule_core.proofs.LegalMachines.{accepted_legal}
use Rattle.schedule_core.proofs.HistoryGrowth.{each_answer_is_of, history_grows}
use Rattle.schedule_core.proofs.Fronts.{fronts_never_fall}
use Rattle.schedule_core.proofs.ReadersInside.{a_look_stays}
use Rattle.schedule_core.proofs.Jobs.{taken_accepted, others_wait}
use Rattle.schedule_core.proofs.JobReports.{accepted_named, seats_count}

pub every_run : (limits : Limits) (steps : List Step) → IsRun limits steps
every_run limits steps = record {
  grows = λ first rest whole. subst (λ ss. IsPrefix (led limits first).history (led limits ss).history) (sym whole) (history_grows limits first rest);
  answers = each_answer_is_of limits steps;
  fronts = fronts_never_fall limits steps;
  steady = λ first others reader at visit query whole stands inside all.
      subst (λ ss. (step (led limits ss) (Read reader query)).outcome ≡ (step (led limits first) (Read reader query)).outcome) (sym whole)
      (a_look_stays limits first others reader at visit query stands inside all);
  accepts = taken_accepted limits steps;
  waits = others_wait limits steps;
  named = accepted_named limits steps;
  counted = seats_count limits steps;
  legal = accepted_legal limits steps;
}

pub played_from : (limits : Limits) (steps : List Step) (os : List Outcome) (now : Option Machine)
    → (now ≡ Some (new_machine limits)) ⊎ (now ≡ None) → PlaysFrom now steps os → IsPlayed limits steps os
played_from limits steps os now starts plays =
    let from_new = plays (new_machine limits) starts in record { plays = from_new; run = every_run limits from_new.played }
