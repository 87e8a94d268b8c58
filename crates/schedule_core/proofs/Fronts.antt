-- The fronts that are reported to a reader never decrease.
use Rattle.std.proofs.Common.{◌≡◌, ℕ, ◌≤◌, ◌⊎◌, Bool, true, false, List, [], ◌∷◌, ◌++◌, length, take, Some, inl, inr, refl, sym, ap, ◌∙◌, subst, arith}
use Rattle.std.specs.Prelude.{slice_get, slice_set, nat_le, ◌==◌, if◌then◌else◌}
use Rattle.std.specs.Option.{option_map_or}
use Rattle.std.specs.List.{All}
use Rattle.std.proofs.lemmas.Bool.{eqb-true, eqb-false, leb-true}
use Rattle.std.proofs.lemmas.List.Elements.{All-nil, All-cons, All-weaker}
use Rattle.trace_model.specs.declared.entry.Entry.{Entry}
use Rattle.trace_model.specs.declared.limits.Limits.{Limits}
use Rattle.trace_model.proofs.Prefixes.{prefix_length}
use Rattle.schedule_core.specs.declared.step.Step.{Step}
use Rattle.schedule_core.specs.Machine.{Machine, Reader, Visit, new_machine, longer, step, outcomes}
use Rattle.schedule_core.specs.Runs.{along, is_of, front_in, front_for, NeverFalls}
use Rattle.schedule_core.proofs.StepCases.{on_step}
use Rattle.schedule_core.proofs.LegalMachines.{Fits, reader_stands, step_fits, new_fits}
use Rattle.schedule_core.proofs.ReadersInside.{get_other, get_same}

-- the number of entries that the reader has seen, if there is such a reader
seen_front : List Reader → ℕ → ℕ
seen_front readers r = option_map_or (λ (reader : Reader). length reader.seen) (slice_get readers r) 0

seen_at : (readers : List Reader) (r : ℕ) (reader : Reader) → slice_get readers r ≡ Some reader → seen_front readers r ≡ length reader.seen
unfolding seen_front
seen_at readers r reader e = ap (λ o. option_map_or (λ (a : Reader). length a.seen) o 0) e

seen_elsewhere : (readers : List Reader) (r i : ℕ) (new : Reader) → (i ≡ r → ⊥)
    → seen_front (slice_set readers i new) r ≡ seen_front readers r
unfolding seen_front
seen_elsewhere readers r i new other = ap (λ o. option_map_or (λ (a : Reader). length a.seen) o 0) (get_other readers i r new other)

-- ---- one step

-- between these readers what one has seen grows, and a front that is reported to it is of that
record Reports (r : ℕ) (before after : List Reader) (fronts : List ℕ) : Type 0 where
  grows : seen_front before r ≤ seen_front after r
  reported : (fronts ≡ []) ⊎ (fronts ≡ seen_front after r ∷ [])

reports_none : (r : ℕ) (readers : List Reader) (fronts : List ℕ) → fronts ≡ [] → Reports r readers readers fronts
reports_none r readers fronts none = record { grows = omega arith; reported = inl none }

-- nothing is reported, whichever reader's step it is
unreported : (b : Bool) (fronts : List ℕ) → fronts ≡ [] → (if b then fronts else []) ≡ []
unreported true fronts none = none
unreported false fronts none = refl

reports_other : (r i : ℕ) (readers : List Reader) (new : Reader) → (i ≡ r → ⊥) → Reports r readers (slice_set readers i new) []
reports_other r i readers new other = record { grows = omega (arith, seen_elsewhere readers r i new other); reported = inl refl }

reports_own : (r : ℕ) (readers : List Reader) (old new : Reader) (fronts : List ℕ) → slice_get readers r ≡ Some old
    → length old.seen ≤ length new.seen
    → (fronts ≡ []) ⊎ (fronts ≡ length new.seen ∷ []) → Reports r readers (slice_set readers r new) fronts
reports_own r readers old new fronts e le reported =
    let at_end = seen_at (slice_set readers r new) r new (get_same readers r old new e) in
    let at_first = seen_at readers r old e in
    record { grows = omega arith; reported = subst (λ n. (fronts ≡ []) ⊎ (fronts ≡ n ∷ [])) (sym at_end) reported }

-- a step of reader i, by which it has seen as much or more
reports_set : (r i : ℕ) (readers : List Reader) (old new : Reader) (fronts : List ℕ) → slice_get readers i ≡ Some old
    → length old.seen ≤ length new.seen
    → (fronts ≡ []) ⊎ (fronts ≡ length new.seen ∷ []) → Reports r readers (slice_set readers i new) (if i == r then fronts else [])
reports_set r i readers old new fronts e le reported =
    let own = reports_own i readers old new fronts e le reported in
    elim (i == r) as (λ b. (i == r) ≡ b → Reports r readers (slice_set readers i new) (if b then fronts else [])) [
      | true ↦ λ same. subst (λ k. Reports k readers (slice_set readers i new) fronts) (eqb-true i r same) own
      | false ↦ λ other. reports_other r i readers new (eqb-false i r other)
    ] refl

reports_answer : (r i : ℕ) (readers : List Reader) (old : Reader) (v : Visit) → slice_get readers i ≡ Some old → v.list ≡ old.seen
    → Reports r readers readers (if i == r then length v.list ∷ [] else [])
reports_answer r i readers old v e same = elim (i == r) as (λ b. (i == r) ≡ b → Reports r readers readers (if b then length v.list ∷ [] else [])) [
  | true ↦ λ own. record {
    grows = omega arith;
    reported = inr (ap (λ n. n ∷ []) (ap length same ∙ sym (seen_at readers i old e) ∙ ap (seen_front readers) (eqb-true i r own)));
  }
  | false ↦ λ other. reports_none r readers [] refl
] refl

longer_least : (a b : List Entry) → length a ≤ length (longer a b)
longer_least a b = elim (nat_le (length a) (length b)) as (λ t. nat_le (length a) (length b) ≡ t → length a ≤ length (if t then b else a)) [
  | true ↦ λ e. leb-true (length a) (length b) e
  | false ↦ λ e. omega arith
] refl

step_reports : (limits : Limits) (r : ℕ) (m : Machine) → Fits limits m → (s : Step)
    → Reports r m.readers (step m s).machine.readers (front_for r s (step m s).outcome)
step_reports limits r m fits = on_step m (λ s t. Reports r m.readers t.machine.readers (front_for r s t.outcome)) (record {
  silent = λ s o quiet. reports_none r m.readers _ (unreported (is_of r s) (front_in o) quiet.front);
  put = λ seat batch last e. reports_none r m.readers [] refl;
  limited = λ seat n last e. reports_none r m.readers [] refl;
  taken = λ job rest e unsent room. reports_none r m.readers [] refl;
  dropped = λ job rest o e says. reports_none r m.readers _ (unreported false (front_in o) says.front);
  shown = reports_none r m.readers [] refl;
  entered = λ i reader e.
      let stands = reader_stands m.history m.readers i reader fits.readers e in
      reports_set r i m.readers reader _ _ e (prefix_length reader.seen m.history stands.seen) (inr refl);
  answered = λ i query reader v e is.
      let stands = reader_stands m.history m.readers i reader fits.readers e in reports_answer r i m.readers reader v e (stands.visit v is);
  learnt = λ i k reader front e. reports_set r i m.readers reader _ _ e (longer_least reader.seen (take front m.history)) (inr refl);
  left = λ i reader e. reports_set r i m.readers reader _ [] e (omega arith) (inl refl);
})

-- ---- runs

-- the fronts never decrease, from this one on
record NeverBelow (n : ℕ) (ks : List ℕ) : Type 0 where
  least : All (λ k. n ≤ k) ks
  rest : NeverFalls ks

lower : (n m : ℕ) (ks : List ℕ) → n ≤ m → NeverBelow m ks → NeverBelow n ks
lower n m ks le never = record { least = All-weaker (λ k. m ≤ k) (λ k. n ≤ k) (λ k l. omega arith) ks never.least; rest = never.rest }

reports_then : (n m : ℕ) (fronts ks : List ℕ) → n ≤ m → (fronts ≡ []) ⊎ (fronts ≡ m ∷ []) → NeverBelow m ks → NeverBelow n (fronts ++ ks)
reports_then n m fronts ks le (inl none) never = subst (λ l. NeverBelow n (l ++ ks)) (sym none) (lower n m ks le never)
reports_then n m fronts ks le (inr one) never = subst (λ l. NeverBelow n (l ++ ks)) (sym one)
    (record { least = All-cons (λ k. n ≤ k) m ks le (lower n m ks le never).least; rest = (never.least, never.rest) })

run_reports : (limits : Limits) (r : ℕ) (m : Machine) (ss : List Step) → Fits limits m
    → NeverBelow (seen_front m.readers r) (along (front_for r) ss (outcomes m ss))
run_reports limits r m [] fits = record { least = All-nil _; rest = tt }
run_reports limits r m (s ∷ ss) fits =
    let now = step_reports limits r m fits s in
    let n = (step m s).machine in
    reports_then (seen_front m.readers r) (seen_front n.readers r) (front_for r s (step m s).outcome) (along (front_for r) ss (outcomes n ss))
    now.grows now.reported (run_reports limits r n ss (step_fits limits m fits s))

pub fronts_never_fall : (limits : Limits) (steps : List Step) (reader : ℕ)
    → NeverFalls (along (front_for reader) steps (outcomes (new_machine limits) steps))
fronts_never_fall limits steps reader = (run_reports limits reader (new_machine limits) steps (new_fits limits)).rest
