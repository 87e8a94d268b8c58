-- Jobs move in the order in which they were submitted: to what is accepted, or out, or they wait.
use Rattle.std.proofs.Common.{◌≡◌, ℕ, ◌+◌, Bool, true, false, List, [], ◌∷◌, ◌++◌, length, drop, refl, sym, ap, ◌∙◌, subst, append_assoc}
use Rattle.std.proofs.lemmas.List.{append-nil}
use Rattle.std.proofs.lemmas.List.Elements.{All-nil}
use Rattle.trace_model.specs.declared.entry.Work.TheVariants as brings
use Rattle.trace_model.specs.declared.entry.Entry.{Entry}
use Rattle.trace_model.specs.declared.limits.Limits.{Limits}
use Rattle.trace_model.specs.Histories.{RisesAfter}
use Rattle.schedule_core.specs.declared.step.Step.{Step}
use Rattle.schedule_core.specs.Machine.{Machine, new_machine, accepted, step, outcomes, at_last}
use Rattle.schedule_core.specs.JobNumbers.{IsNumbered}
use Rattle.schedule_core.specs.Runs.{along, job_of, verdict_of, kept}
use Rattle.schedule_core.proofs.StepCases.{on_step}
use Rattle.schedule_core.proofs.JobNumbers.{numbered_put, numbered_taken}

-- ---- what a step does to the jobs

-- Whatever jobs and verdicts come later: those that the step reports come before them.
record Passes (m n : Machine) (jobs : List Entry) (verdicts : List Bool) : Type 0 where
  accepts : (js : List Entry) (vs : List Bool)
      → accepted n ++ kept (n.waiting ++ js) vs ≡ accepted m ++ kept (m.waiting ++ (jobs ++ js)) (verdicts ++ vs)
  waits : (js : List Entry) (vs : List Bool)
      → drop (length vs) (n.waiting ++ js) ≡ drop (length (verdicts ++ vs)) (m.waiting ++ (jobs ++ js))

passes_silent : (m : Machine) (jobs : List Entry) (verdicts : List Bool) → jobs ≡ [] → verdicts ≡ [] → Passes m m jobs verdicts
passes_silent m jobs verdicts j v =
    subst (λ vs. Passes m m jobs vs) (sym v) (subst (λ js. Passes m m js []) (sym j) (record { accepts = λ js vs. refl; waits = λ js vs. refl }))

passes_put : (m n : Machine) (job : Entry) → accepted n ≡ accepted m → n.waiting ≡ m.waiting ++ job ∷ [] → Passes m n (job ∷ []) []
passes_put m n job a w = record {
  accepts = λ js vs.
      ap (λ l. l ++ kept (n.waiting ++ js) vs) a
      ∙ ap (λ l. accepted m ++ kept l vs) (ap (λ l. l ++ js) w ∙ append_assoc m.waiting (job ∷ []) js);
  waits = λ js vs. ap (drop (length vs)) (ap (λ l. l ++ js) w ∙ append_assoc m.waiting (job ∷ []) js);
}

passes_taken : (m n : Machine) (job : Entry) → m.waiting ≡ job ∷ n.waiting → accepted n ≡ accepted m ++ job ∷ [] → Passes m n [] (true ∷ [])
passes_taken m n job w a = record {
  accepts = λ js vs.
      ap (λ l. l ++ kept (n.waiting ++ js) vs) a ∙ append_assoc (accepted m) (job ∷ []) (kept (n.waiting ++ js) vs)
      ∙ ap (λ l. accepted m ++ kept (l ++ js) (true ∷ vs)) (sym w);
  waits = λ js vs. ap (λ l. drop (length (true ∷ vs)) (l ++ js)) (sym w);
}

passes_out : (m n : Machine) (job : Entry) → m.waiting ≡ job ∷ n.waiting → accepted n ≡ accepted m → Passes m n [] (false ∷ [])
passes_out m n job w a = record {
  accepts = λ js vs. ap (λ l. l ++ kept (n.waiting ++ js) vs) a ∙ ap (λ l. accepted m ++ kept (l ++ js) (false ∷ vs)) (sym w);
  waits = λ js vs. ap (λ l. drop (length (false ∷ vs)) (l ++ js)) (sym w);
}

passes_dropped : (m n : Machine) (job : Entry) (jobs : List Entry) (verdicts : List Bool) → m.waiting ≡ job ∷ n.waiting → accepted n ≡ accepted m
    → jobs ≡ [] → verdicts ≡ false ∷ [] → Passes m n jobs verdicts
passes_dropped m n job jobs verdicts w a j v =
    subst (λ vs. Passes m n jobs vs) (sym v) (subst (λ js. Passes m n js (false ∷ [])) (sym j) (passes_out m n job w a))

passes_shown : (m n : Machine) → accepted n ≡ accepted m → n.waiting ≡ m.waiting → Passes m n [] []
passes_shown m n a w = record {
  accepts = λ js vs. ap (λ l. l ++ kept (n.waiting ++ js) vs) a ∙ ap (λ l. accepted m ++ kept (l ++ js) vs) w;
  waits = λ js vs. ap (λ l. drop (length vs) (l ++ js)) w;
}

step_passes : (m : Machine) (s : Step) → Passes m (step m s).machine (job_of s (step m s).outcome) (verdict_of s (step m s).outcome)
step_passes m = on_step m (λ s t. Passes m t.machine (job_of s t.outcome) (verdict_of s t.outcome)) (record {
  silent = λ s o quiet. passes_silent m (job_of s o) (verdict_of s o) quiet.job quiet.verdict;
  put = λ seat batch last e. passes_put m _ (record { seat = seat; number = last + 1; work = brings.Batch batch }) refl refl;
  limited = λ seat n last e. passes_put m _ (record { seat = seat; number = last + 1; work = brings.TraceLimit n }) refl refl;
  taken = λ job rest e unsent room. passes_taken m _ job e (sym (append_assoc m.history m.pending (job ∷ [])));
  dropped = λ job rest o e says. passes_dropped m _ job _ _ e refl says.job says.verdict;
  shown = passes_shown m _ (append-nil (accepted m)) refl;
  entered = λ r reader e. passes_shown m _ refl refl;
  answered = λ r query reader v e is. passes_shown m _ refl refl;
  learnt = λ r k reader front e. passes_shown m _ refl refl;
  left = λ r reader e. passes_shown m _ refl refl;
})

-- ---- runs

kept_none : (js : List Entry) → kept js [] ≡ []
kept_none [] = refl
kept_none (j ∷ js) = refl

jobs_along : Machine → List Step → List Entry
jobs_along m ss = along job_of ss (outcomes m ss)

verdicts_along : Machine → List Step → List Bool
verdicts_along m ss = along verdict_of ss (outcomes m ss)

run_accepts : (m : Machine) (ss : List Step)
    → accepted (at_last m ss) ≡ accepted m ++ kept (m.waiting ++ jobs_along m ss) (verdicts_along m ss)
unfolding jobs_along verdicts_along
run_accepts m [] = sym (ap (λ l. accepted m ++ l) (kept_none (m.waiting ++ [])) ∙ append-nil (accepted m))
run_accepts m (s ∷ ss) =
    let n = (step m s).machine in
    run_accepts n ss ∙ (step_passes m s).accepts (jobs_along n ss) (verdicts_along n ss)

run_waits : (m : Machine) (ss : List Step) → (at_last m ss).waiting ≡ drop (length (verdicts_along m ss)) (m.waiting ++ jobs_along m ss)
unfolding jobs_along verdicts_along
run_waits m [] = sym (append-nil m.waiting)
run_waits m (s ∷ ss) =
    let n = (step m s).machine in
    run_waits n ss ∙ (step_passes m s).waits (jobs_along n ss) (verdicts_along n ss)

pub taken_accepted : (limits : Limits) (steps : List Step)
    → accepted (at_last (new_machine limits) steps)
    ≡ kept (along job_of steps (outcomes (new_machine limits) steps)) (along verdict_of steps (outcomes (new_machine limits) steps))
unfolding jobs_along verdicts_along
taken_accepted limits steps = run_accepts (new_machine limits) steps

pub others_wait : (limits : Limits) (steps : List Step)
    → (at_last (new_machine limits) steps).waiting
    ≡ drop (length (along verdict_of steps (outcomes (new_machine limits) steps))) (along job_of steps (outcomes (new_machine limits) steps))
unfolding jobs_along verdicts_along
others_wait limits steps = run_waits (new_machine limits) steps

-- ---- numbers

-- the jobs that a step submits are numbered after those before it
step_numbers : (m : Machine) (before : List Entry) → IsNumbered before [] m.numbers → (s : Step)
    → IsNumbered before (job_of s (step m s).outcome) (step m s).machine.numbers
step_numbers m before numbered = on_step m (λ s t. IsNumbered before (job_of s t.outcome) t.machine.numbers) (record {
  silent = λ s o quiet. subst (λ js. IsNumbered before js m.numbers) (sym quiet.job) numbered;
  put = λ seat batch last e. numbered_put before [] m.numbers (record { seat = seat; number = last + 1; work = brings.Batch batch }) last numbered e refl;
  limited = λ seat n last e. numbered_put before [] m.numbers (record { seat = seat; number = last + 1; work = brings.TraceLimit n }) last numbered e refl;
  taken = λ job rest e unsent room. numbered;
  dropped = λ job rest o e says. subst (λ js. IsNumbered before js m.numbers) (sym says.job) numbered;
  shown = numbered;
  entered = λ r reader e. numbered;
  answered = λ r query reader v e is. numbered;
  learnt = λ r k reader front e. numbered;
  left = λ r reader e. numbered;
})

-- jobs with ascending numbers, followed by more of them
rises_on : (ns : List ℕ) (before jobs more : List Entry) → IsNumbered before jobs ns
    → ((all : List Entry) → IsNumbered all [] ns → RisesAfter all more) → RisesAfter before (jobs ++ more)
rises_on ns before [] more numbered on = on before numbered
rises_on ns before (job ∷ jobs) more numbered on =
    (numbered.rising.0, numbered.rising.1, rises_on ns (before ++ job ∷ []) jobs more (numbered_taken before jobs ns job numbered) on)

run_numbers : (m : Machine) (before : List Entry) (ss : List Step) → IsNumbered before [] m.numbers
    → RisesAfter before (along job_of ss (outcomes m ss))
run_numbers m before [] numbered = tt
run_numbers m before (s ∷ ss) numbered =
    let n = (step m s).machine in
    rises_on n.numbers before (job_of s (step m s).outcome) (along job_of ss (outcomes n ss))
    (step_numbers m before numbered s) (λ all is. run_numbers n all ss is)

pub jobs_rise : (limits : Limits) (steps : List Step) → RisesAfter [] (along job_of steps (outcomes (new_machine limits) steps))
jobs_rise limits steps = run_numbers (new_machine limits) [] steps (record { rising = tt; below = All-nil _ })
