-- The history only grows, and each answer is of a prefix of it.
use Rattle.std.proofs.Common.{◌≡◌, ℕ, List, [], ◌∷◌, ◌++◌, length, Some, refl, sym, ap, ◌∙◌, subst}
use mathlib.Core.List.{IsPrefix}
use Rattle.trace_model.specs.declared.entry.Entry.{Entry}
use Rattle.trace_model.specs.declared.limits.Limits.{Limits}
use Rattle.trace_model.specs.declared.query.Query.{Query}
use Rattle.trace_model.specs.Answers.{answer}
use Rattle.trace_model.proofs.Prefixes.{prefix_self, prefix_trans, prefix_append, prefix_length, take_whole}
use Rattle.schedule_core.specs.declared.step.Step.{Step}
use Rattle.schedule_core.specs.declared.step.Step.TheVariants as ask
use Rattle.schedule_core.specs.declared.outcome.Outcome.TheVariants.{Answered}
use Rattle.schedule_core.specs.Machine.{Machine, Reader, Visit, new_machine, step, outcomes, at_last}
use Rattle.schedule_core.specs.Runs.{AllAlong, IsOf}
use Rattle.schedule_core.proofs.StepCases.{on_step}
use Rattle.schedule_core.proofs.LegalMachines.{StandsIn, Fits, reader_stands, step_fits, new_fits}

-- ---- the history

pub step_grows : (m : Machine) (s : Step) → IsPrefix m.history (step m s).machine.history
step_grows m = on_step m (λ s t. IsPrefix m.history t.machine.history) (record {
  silent = λ s o quiet. prefix_self m.history;
  put = λ seat batch last e. prefix_self m.history;
  limited = λ seat n last e. prefix_self m.history;
  taken = λ job rest e unsent room. prefix_self m.history;
  dropped = λ job rest o e says. prefix_self m.history;
  shown = prefix_append m.history m.pending;
  entered = λ r reader e. prefix_self m.history;
  answered = λ r query reader v e is. prefix_self m.history;
  learnt = λ r k reader front e. prefix_self m.history;
  left = λ r reader e. prefix_self m.history;
})

pub run_grows : (m : Machine) (ss : List Step) → IsPrefix m.history (at_last m ss).history
run_grows m [] = prefix_self m.history
run_grows m (s ∷ ss) =
    prefix_trans m.history (step m s).machine.history (at_last m (s ∷ ss)).history (step_grows m s) (run_grows (step m s).machine ss)

-- more steps continue from where the first ones ended
pub run_goes_on : (m : Machine) (ss more : List Step) → at_last m (ss ++ more) ≡ at_last (at_last m ss) more
run_goes_on m [] more = refl
run_goes_on m (s ∷ ss) more = run_goes_on (step m s).machine ss more

pub history_grows : (limits : Limits) (steps more : List Step)
    → IsPrefix (at_last (new_machine limits) steps).history (at_last (new_machine limits) (steps ++ more)).history
history_grows limits steps more =
    let m = at_last (new_machine limits) steps in
    subst (λ n. IsPrefix m.history n.history) (sym (run_goes_on (new_machine limits) steps more)) (run_grows m more)

-- ---- answers

-- a reader's visit is at a prefix of what the history grows to
visit_begins : (m : Machine) (h : List Entry) (reader : Reader) (v : Visit) → StandsIn m.history reader → reader.inside ≡ Some v
    → IsPrefix m.history h → IsPrefix v.list h
visit_begins m h reader v stands is p = subst (λ l. IsPrefix l h) (sym (stands.visit v is)) (prefix_trans reader.seen m.history h stands.seen p)

answer_is_of : (limits : Limits) (m : Machine) (h : List Entry) (v : Visit) (r : ℕ) (query : Query) → m.limits ≡ limits → IsPrefix v.list h
    → IsOf limits h (ask.Read r query) (Answered (length v.list) (answer m.limits v.list query))
answer_is_of limits m h v r query bounds p = (
  prefix_length v.list h p,
  ap (λ l. answer l v.list query) bounds ∙ ap (λ l. answer limits l query) (sym (take_whole v.list h p)),
)

step_answers : (limits : Limits) (m : Machine) (h : List Entry) → Fits limits m → IsPrefix m.history h → (s : Step)
    → IsOf limits h s (step m s).outcome
step_answers limits m h fits p = on_step m (λ s t. IsOf limits h s t.outcome) (record {
  silent = λ s o quiet. quiet.answer limits h;
  put = λ seat batch last e. tt;
  limited = λ seat n last e. tt;
  taken = λ job rest e unsent room. tt;
  dropped = λ job rest o e says. says.answer limits h;
  shown = tt;
  entered = λ r reader e. tt;
  answered = λ r query reader v e is.
      answer_is_of limits m h v r query fits.bounds (visit_begins m h reader v (reader_stands m.history m.readers r reader fits.readers e) is p);
  learnt = λ r k reader front e. tt;
  left = λ r reader e. tt;
})

run_answers : (limits : Limits) (m : Machine) (ss : List Step) → Fits limits m
    → AllAlong (IsOf limits (at_last m ss).history) ss (outcomes m ss)
run_answers limits m [] fits = tt
run_answers limits m (s ∷ ss) fits =
    let first = step_answers limits m (at_last m (s ∷ ss)).history fits (run_grows m (s ∷ ss)) s in
    (first, run_answers limits (step m s).machine ss (step_fits limits m fits s))

pub each_answer_is_of : (limits : Limits) (steps : List Step)
    → AllAlong (IsOf limits (at_last (new_machine limits) steps).history) steps (outcomes (new_machine limits) steps)
each_answer_is_of limits steps = run_answers limits (new_machine limits) steps (new_fits limits)
