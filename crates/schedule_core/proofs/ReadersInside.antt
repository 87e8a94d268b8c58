-- What others do changes nothing for a reader inside.
use Rattle.std.proofs.Common.{◌≡◌, ◌≢◌, ℕ, zero, suc, false, List, [], ◌∷◌, ◌++◌, length, Some, refl, sym, ap, ◌∙◌}
use Rattle.std.specs.Prelude.{slice_get, slice_set}
use Rattle.std.specs.Option.{option_map_or}
use Rattle.std.specs.List.{All}
use Rattle.std.proofs.lemmas.Bool.{eqb-false}
use Rattle.std.proofs.lemmas.List.Elements.{All-head, All-tail}
use Rattle.trace_model.specs.declared.limits.Limits.{Limits}
use Rattle.trace_model.specs.declared.query.Query.{Query}
use Rattle.trace_model.specs.Answers.{answer}
use Rattle.schedule_core.specs.declared.step.Step.{Step}
use Rattle.schedule_core.specs.declared.step.Step.TheVariants as ask
use Rattle.schedule_core.specs.declared.outcome.Outcome.TheVariants.{Answered, Unknown}
use Rattle.schedule_core.specs.Machine.{Machine, Reader, Visit, new_machine, stays, reads, step, at_last}
use Rattle.schedule_core.specs.Runs.{is_of}
use Rattle.schedule_core.proofs.StepCases.{on_step}
use Rattle.schedule_core.proofs.HistoryGrowth.{run_goes_on}

-- ---- one item is set

pub get_other : {A : Type 0} (xs : List A) (i k : ℕ) (y : A) → i ≢ k → slice_get (slice_set xs i y) k ≡ slice_get xs k
get_other [] i k y other = refl
get_other (x ∷ xs) zero zero y other = absurd (other refl)
get_other (x ∷ xs) zero (suc k) y other = refl
get_other (x ∷ xs) (suc i) zero y other = refl
get_other (x ∷ xs) (suc i) (suc k) y other = get_other xs i k y (λ e. other (ap suc e))

pub get_same : {A : Type 0} (xs : List A) (i : ℕ) (x y : A) → slice_get xs i ≡ Some x → slice_get (slice_set xs i y) i ≡ Some y
get_same [] i x y e = absurd cc
get_same (z ∷ xs) zero x y e = refl
get_same (z ∷ xs) (suc i) x y e = get_same xs i x y e

-- ---- one reader

-- the reader has the same state in both machines, under the same limits
pub record StandsAlike (reader : ℕ) (m n : Machine) : Type 0 where
  pub bounds : n.limits ≡ m.limits
  pub place : slice_get n.readers reader ≡ slice_get m.readers reader

others_set : (m : Machine) (r reader : ℕ) (y : Reader) → (r ≡ reader → ⊥)
    → StandsAlike reader m (record m { readers = slice_set m.readers r y })
others_set m r reader y other = record { bounds = refl; place = get_other m.readers r reader y other }

step_of_other : (reader : ℕ) (m : Machine) (s : Step) → is_of reader s ≡ false → StandsAlike reader m (step m s).machine
step_of_other reader m = on_step m (λ s t. is_of reader s ≡ false → StandsAlike reader m t.machine) (record {
  silent = λ s o quiet other. record { bounds = refl; place = refl };
  put = λ seat batch last e other. record { bounds = refl; place = refl };
  limited = λ seat n last e other. record { bounds = refl; place = refl };
  taken = λ job rest e unsent room other. record { bounds = refl; place = refl };
  dropped = λ job rest o e says other. record { bounds = refl; place = refl };
  shown = λ other. record { bounds = refl; place = refl };
  entered = λ r at e other. others_set m r reader _ (eqb-false r reader other);
  answered = λ r query at v e is other. record { bounds = refl; place = refl };
  learnt = λ r k at front e other. others_set m r reader _ (eqb-false r reader other);
  left = λ r at e other. others_set m r reader _ (eqb-false r reader other);
})

steps_of_others : (reader : ℕ) (m : Machine) (ss : List Step) → All (λ s. is_of reader s ≡ false) ss → StandsAlike reader m (at_last m ss)
steps_of_others reader m [] all = record { bounds = refl; place = refl }
steps_of_others reader m (s ∷ ss) all =
    let first = step_of_other reader m s (All-head (λ t. is_of reader t ≡ false) s ss all) in
    let rest = steps_of_others reader (step m s).machine ss (All-tail (λ t. is_of reader t ≡ false) s ss all) in
    record { bounds = rest.bounds ∙ first.bounds; place = rest.place ∙ first.place }

-- ---- its read

look_of : (m : Machine) (reader : ℕ) (at : Reader) (visit : Visit) (query : Query) → slice_get m.readers reader ≡ Some at
    → at.inside ≡ Some visit
    → (step m (ask.Read reader query)).outcome ≡ Answered (length visit.list) (answer m.limits visit.list query)
look_of m reader at visit query e is =
    ap (λ o. (option_map_or (λ (a : Reader). reads m query a.inside) o (stays m Unknown)).outcome) e ∙ ap (λ i. (reads m query i).outcome) is

pub a_look_stays : (limits : Limits) (steps others : List Step) (reader : ℕ) (at : Reader) (visit : Visit) (query : Query)
    → slice_get (at_last (new_machine limits) steps).readers reader ≡ Some at → at.inside ≡ Some visit → All (λ s. is_of reader s ≡ false) others
    → (step (at_last (new_machine limits) (steps ++ others)) (ask.Read reader query)).outcome
    ≡ (step (at_last (new_machine limits) steps) (ask.Read reader query)).outcome
a_look_stays limits steps others reader at visit query e is all =
    let m = at_last (new_machine limits) steps in
    let alike = steps_of_others reader m others all in
    ap (λ n. (step n (ask.Read reader query)).outcome) (run_goes_on (new_machine limits) steps others)
    ∙ look_of (at_last m others) reader at visit query (alike.place ∙ e) is
    ∙ ap (λ l. Answered (length visit.list) (answer l visit.list query)) alike.bounds
    ∙ sym (look_of m reader at visit query e is)
