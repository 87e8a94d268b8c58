-- By which seat and number an accepted job is reported, and how the jobs of a seat are numbered.
use Rattle.std.proofs.Common.{◌≡◌, ℕ, ◌+◌, ◌⊎◌, zero, suc, true, false, List, [], ◌∷◌, ◌++◌, length, map, replicate, Some, inl, inr, refl, sym, ap, ◌∙◌, subst}
use Rattle.std.proofs.Common.{append_assoc}
use Rattle.std.specs.Prelude.{slice_get, slice_index, slice_set, if◌then◌else◌, ◌==◌}
use Rattle.std.specs.List.{range_with_len}
use Rattle.std.proofs.lemmas.Bool.{cases_eq, eq-eqb, ne_eqb}
use Rattle.std.proofs.lemmas.List.{append-nil, map-append, get_or-set_same, get_or-set_other}
use Rattle.std.proofs.lemmas.Option.{slice_get_within, get_or_from_slice_get}
use Rattle.trace_model.specs.declared.entry.Work.TheVariants as brings
use Rattle.trace_model.specs.declared.entry.Entry.{Entry}
use Rattle.trace_model.specs.declared.limits.Limits.{Limits}
use Rattle.schedule_core.specs.declared.step.Step.{Step}
use Rattle.schedule_core.specs.Machine.{Machine, new_machine, accepted, step, outcomes, at_last}
use Rattle.schedule_core.specs.Runs.{along, job_of, name_of, numbers_of, reported_by}
use Rattle.schedule_core.proofs.StepCases.{on_step}

-- ---- names

-- what is accepted is named by what was accepted before and by what is reported
Names : Machine → Machine → List (ℕ × ℕ) → Type 0
Names m n reported = map name_of (accepted n) ≡ map name_of (accepted m) ++ reported

names_same : (m n : Machine) → accepted n ≡ accepted m → Names m n []
unfolding Names
names_same m n e = ap (map name_of) e ∙ sym (append-nil (map name_of (accepted m)))

names_more : (m n : Machine) (job : Entry) → accepted n ≡ accepted m ++ job ∷ [] → Names m n (name_of job ∷ [])
unfolding Names
names_more m n job e = ap (map name_of) e ∙ map-append name_of (accepted m) (job ∷ [])

step_names : (m : Machine) (s : Step) → Names m (step m s).machine (reported_by s (step m s).outcome)
step_names m = on_step m (λ s t. Names m t.machine (reported_by s t.outcome)) (record {
  silent = λ s o quiet. subst (Names m m) (sym quiet.name) (names_same m m refl);
  put = λ seat batch last e. names_same m _ refl;
  limited = λ seat n last e. names_same m _ refl;
  taken = λ job rest e unsent room. names_more m _ job (sym (append_assoc m.history m.pending (job ∷ [])));
  dropped = λ job rest o e says. subst (Names m _) (sym says.name) (names_same m _ refl);
  shown = names_same m _ (append-nil (accepted m));
  entered = λ r reader e. names_same m _ refl;
  answered = λ r query reader v e is. names_same m _ refl;
  learnt = λ r k reader front e. names_same m _ refl;
  left = λ r reader e. names_same m _ refl;
})

run_names : (m : Machine) (ss : List Step) → map name_of (accepted (at_last m ss)) ≡ map name_of (accepted m) ++ along reported_by ss (outcomes m ss)
unfolding Names
run_names m [] = sym (append-nil (map name_of (accepted m)))
run_names m (s ∷ ss) =
    let n = (step m s).machine in
    let more = along reported_by ss (outcomes n ss) in
    run_names n ss ∙ ap (λ l. l ++ more) (step_names m s) ∙ append_assoc (map name_of (accepted m)) (reported_by s (step m s).outcome) more

pub accepted_named : (limits : Limits) (steps : List Step)
    → map name_of (accepted (at_last (new_machine limits) steps)) ≡ along reported_by steps (outcomes (new_machine limits) steps)
accepted_named limits steps = run_names (new_machine limits) steps

-- ---- numbers

-- the seat has no job among these, and its last number stays; or it has one, which has the next number
Counts : ℕ → List ℕ → List ℕ → List Entry → Type 0
Counts k old new jobs =
    ((numbers_of k jobs ≡ []) × (slice_index new k ≡ slice_index old k))
    ⊎ ((numbers_of k jobs ≡ (slice_index old k + 1) ∷ []) × (slice_index new k ≡ slice_index old k + 1))

counts_none : (k : ℕ) (ns : List ℕ) (jobs : List Entry) → jobs ≡ [] → Counts k ns ns jobs
unfolding Counts
counts_none k ns jobs e = inl (ap (numbers_of k) e, refl)

counts_put : (k : ℕ) (ns : List ℕ) (job : Entry) (last : ℕ) → slice_get ns job.seat ≡ Some last → job.number ≡ last + 1
    → Counts k ns (slice_set ns job.seat (last + 1)) (job ∷ [])
unfolding Counts
counts_put k ns job last has next =
    let within = slice_get_within ns job.seat last has in
    let now = get_or_from_slice_get ns job.seat last 0 has in
    elim (cases_eq job.seat k) [
      | inl same ↦ inr (
        ap (λ b. if b then job.number ∷ [] else []) (eq-eqb job.seat k same)
            ∙ ap (λ n. n ∷ []) (next ∙ ap (λ n. n + 1) (sym now ∙ ap (slice_index ns) same)),
        ap (slice_index (slice_set ns job.seat (last + 1))) (sym same) ∙ get_or-set_same ns job.seat (last + 1) 0 within
            ∙ ap (λ n. n + 1) (sym now ∙ ap (slice_index ns) same),
      )
      | inr other ↦ inl (
        ap (λ b. if b then job.number ∷ [] else []) (ne_eqb job.seat k other),
        get_or-set_other ns job.seat k (last + 1) 0 (λ e. other (sym e)),
      )
    ]

step_counts : (m : Machine) (k : ℕ) (s : Step) → Counts k m.numbers (step m s).machine.numbers (job_of s (step m s).outcome)
step_counts m k = on_step m (λ s t. Counts k m.numbers t.machine.numbers (job_of s t.outcome)) (record {
  silent = λ s o quiet. counts_none k m.numbers (job_of s o) quiet.job;
  put = λ seat batch last e. counts_put k m.numbers (record { seat = seat; number = last + 1; work = brings.Batch batch }) last e refl;
  limited = λ seat n last e. counts_put k m.numbers (record { seat = seat; number = last + 1; work = brings.TraceLimit n }) last e refl;
  taken = λ job rest e unsent room. counts_none k m.numbers [] refl;
  dropped = λ job rest o e says. counts_none k m.numbers _ says.job;
  shown = counts_none k m.numbers [] refl;
  entered = λ r reader e. counts_none k m.numbers [] refl;
  answered = λ r query reader v e is. counts_none k m.numbers [] refl;
  learnt = λ r k_ reader front e. counts_none k m.numbers [] refl;
  left = λ r reader e. counts_none k m.numbers [] refl;
})

numbers_append : (k : ℕ) (a b : List Entry) → numbers_of k (a ++ b) ≡ numbers_of k a ++ numbers_of k b
numbers_append k [] b = refl
numbers_append k (j ∷ a) b =
    elim (j.seat == k) as (λ t. (if t then j.number ∷ numbers_of k (a ++ b) else numbers_of k (a ++ b))
    ≡ (if t then j.number ∷ numbers_of k a else numbers_of k a) ++ numbers_of k b) [
      | true ↦ ap (λ l. j.number ∷ l) (numbers_append k a b)
      | false ↦ numbers_append k a b
    ]

-- the numbers continue from one above the last
GoesOn : ℕ → List ℕ → Type 0
GoesOn last ns = ns ≡ range_with_len (last + 1) (length ns)

goes_on_with : (old new : ℕ) (a b : List ℕ) → ((a ≡ []) × (new ≡ old)) ⊎ ((a ≡ (old + 1) ∷ []) × (new ≡ old + 1)) → GoesOn new b
    → GoesOn old (a ++ b)
unfolding GoesOn
goes_on_with old new a b (inl e) on =
    subst (λ l. l ++ b ≡ range_with_len (old + 1) (length (l ++ b))) (sym e.0) (subst (λ n. b ≡ range_with_len (n + 1) (length b)) e.1 on)
goes_on_with old new a b (inr e) on =
    subst (λ l. l ++ b ≡ range_with_len (old + 1) (length (l ++ b))) (sym e.0)
    (ap (λ l. (old + 1) ∷ l) (subst (λ n. b ≡ range_with_len (n + 1) (length b)) e.1 on))

run_counts : (m : Machine) (k : ℕ) (ss : List Step) → GoesOn (slice_index m.numbers k) (numbers_of k (along job_of ss (outcomes m ss)))
unfolding GoesOn Counts
run_counts m k [] = refl
run_counts m k (s ∷ ss) =
    let n = (step m s).machine in
    let now = job_of s (step m s).outcome in
    let more = along job_of ss (outcomes n ss) in
    subst (GoesOn (slice_index m.numbers k)) (sym (numbers_append k now more))
    (goes_on_with (slice_index m.numbers k) (slice_index n.numbers k) (numbers_of k now) (numbers_of k more) (step_counts m k s) (run_counts n k ss))

no_number_yet : (n k : ℕ) → slice_index (replicate n 0) k ≡ 0
no_number_yet zero k = refl
no_number_yet (suc n) zero = refl
no_number_yet (suc n) (suc k) = no_number_yet n k

pub seats_count : (limits : Limits) (steps : List Step) (seat : ℕ)
    → numbers_of seat (along job_of steps (outcomes (new_machine limits) steps))
    ≡ range_with_len 1 (length (numbers_of seat (along job_of steps (outcomes (new_machine limits) steps))))
unfolding GoesOn
seats_count limits steps seat =
    let ns = numbers_of seat (along job_of steps (outcomes (new_machine limits) steps)) in
    subst (λ last. ns ≡ range_with_len (last + 1) (length ns)) (no_number_yet 64 seat) (run_counts (new_machine limits) seat steps)
