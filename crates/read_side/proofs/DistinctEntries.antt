-- An entry of a legal list is there once.
use Rattle.std.proofs.Common.{◌≡◌, ℕ, ◌-◌, ◌<◌, true, false, List, [], ◌∷◌, ◌++◌, refl, ap, sym, subst, ◌∙◌, arith, append_assoc, append-nil, eqb-true}
use Rattle.std.proofs.Common.{eq-eqb}
use Rattle.std.specs.Prelude.{◌==◌, ◌&&◌, filter, if◌then◌else◌}
use Rattle.std.proofs.lemmas.List.Elements.{filter-append}
use mathlib.Core.List.{IsPrefix}
use Rattle.trace_model.specs.declared.entry.Entry.{Entry}
use Rattle.trace_model.specs.declared.limits.Limits.{Limits}
use Rattle.trace_model.specs.Histories.{IsLegal, AboveEach, RisesAfter}
use Rattle.trace_model.proofs.Lists.{split_at}
use Rattle.trace_model.proofs.Prefixes.{prefix_get}
use Rattle.read_side.specs.Receipts.{StandsAt, AnsweredAt}
use Rattle.read_side.specs.OneHistory.{is_same_job, IsAcknowledged}

-- numbers of one seat that differ are not of the same job
other_job : (d e : Entry) → (d.seat ≡ e.seat → (d.number ≡ e.number → ⊥)) → is_same_job d e ≡ false
other_job d e other =
    elim (e.seat == d.seat) as (λ b. (e.seat == d.seat) ≡ b → (b && (e.number == d.number)) ≡ false) [
      | false ↦ λ s. refl
      | true ↦ λ s. elim (e.number == d.number) as (λ b. (e.number == d.number) ≡ b → b ≡ false) [
        | false ↦ λ n. refl
        | true ↦ λ n. absurd (other (sym (eqb-true e.seat d.seat s)) (sym (eqb-true e.number d.number n)))
      ] refl
    ] refl

keep_none : (d e : Entry) (xs : List Entry) → is_same_job d e ≡ false → filter (is_same_job d) xs ≡ [] → filter (is_same_job d) (e ∷ xs) ≡ []
keep_none d e xs other none = ap (λ b. if b then e ∷ filter (is_same_job d) xs else filter (is_same_job d) xs) other ∙ none

none_before : (d : Entry) (front : List Entry) → AboveEach d front → filter (is_same_job d) front ≡ []
none_before d [] a = refl
none_before d (x ∷ front) a =
    keep_none d x front (other_job d x (λ seat number. (let less = a.0 (sym seat) in absurd (omega (arith, less, number))))) (none_before d front a.1)

-- the number is above that of an entry that came before
above_that : (e : Entry) (front : List Entry) (d : Entry) (mid : List Entry) → AboveEach e (front ++ d ∷ mid) → d.seat ≡ e.seat → d.number < e.number
above_that e [] d mid a = a.0
above_that e (x ∷ front) d mid a = above_that e front d mid a.1

none_behind : (front : List Entry) (d : Entry) (mid rest : List Entry) → RisesAfter (front ++ d ∷ mid) rest → filter (is_same_job d) rest ≡ []
none_behind front d mid [] r = refl
none_behind front d mid (x ∷ rest) r =
    let other = other_job d x (λ seat number. (let less = above_that x front d mid r.1 seat in absurd (omega (arith, less, number)))) in
    keep_none d x rest other
    (none_behind front d (mid ++ x ∷ []) rest (subst (λ l. RisesAfter l rest) (append_assoc front (d ∷ mid) (x ∷ [])) r.2))

rises_at : (before front : List Entry) (d : Entry) (rest : List Entry) → RisesAfter before (front ++ d ∷ rest) → AboveEach d (before ++ front)
    × RisesAfter ((before ++ front) ++ d ∷ []) rest
rises_at before [] d rest r = subst (λ l. AboveEach d l × RisesAfter (l ++ d ∷ []) rest) (sym (append-nil before)) (r.1, r.2)
rises_at before (x ∷ front) d rest r =
    subst (λ l. AboveEach d l × RisesAfter (l ++ d ∷ []) rest) (append_assoc before (x ∷ []) front) (rises_at (before ++ x ∷ []) front d rest r.2)

same_job : (d : Entry) → is_same_job d d ≡ true
same_job d = ap (λ b. b && (d.number == d.number)) (eq-eqb d.seat d.seat refl) ∙ eq-eqb d.number d.number refl

-- an entry of a legal list is there once
once : (limits : Limits) (front : List Entry) (d : Entry) (rest : List Entry) → IsLegal limits (front ++ d ∷ rest)
    → filter (is_same_job d) (front ++ d ∷ rest) ≡ d ∷ []
once limits front d rest legal =
    let parts = rises_at [] front d rest legal.rising in
    filter-append (is_same_job d) front (d ∷ rest)
    ∙ (ap (λ l. l ++ filter (is_same_job d) (d ∷ rest)) (none_before d front parts.0)
    ∙ (ap (λ b. if b then d ∷ filter (is_same_job d) rest else filter (is_same_job d) rest) (same_job d)
    ∙ ap (λ l. d ∷ l) (none_behind front d [] rest parts.1)))

-- what was acknowledged with a list is in each legal continuation of it, once
pub acknowledged_once : (limits : Limits) (list whole : List Entry) (place : ℕ) (e : Entry) → IsLegal limits whole → IsPrefix list whole
    → AnsweredAt list place e → IsAcknowledged whole place e
acknowledged_once limits list whole place e legal begins at =
    let stands : StandsAt whole place at.0 = (at.1.0, prefix_get list whole (place - 1) at.0 begins at.1.1) in
    let split = split_at whole (place - 1) at.0 stands.1 in
    let alone = once limits split.0 at.0 split.1 (subst (IsLegal limits) split.2 legal) in
    record {
      by = at.0;
      stands = stands;
      answers = at.2;
      once = ap (filter (is_same_job at.0)) split.2 ∙ alone;
    }
