-- The lists after one entry is judged.
use Rattle.std.proofs.Common.{◌≡◌, ℕ, zero, suc, ◌+◌, ◌-◌, Bool, if◌then◌else◌, List, [], ◌∷◌, ◌++◌, length, refl, subst, sym, ap, ◌∙◌, ⊎_elim, arith}
use Rattle.std.proofs.Common.{append_assoc, Some, slice_get, inl, inr, Result, Ok, Err}
use Rattle.std.specs.Prelude.{◌&&◌, not}
use Rattle.std.specs.Option.{unwrap_or}
use Rattle.std.specs.Result.{result_err}
use Rattle.std.proofs.lemmas.List.{append-nil}
use mathlib.Core.List.{IsPrefix}
use Rattle.trace_model.specs.declared.admission.Admission.{Admission}
use Rattle.trace_model.specs.declared.admission.Admission.TheVariants.{Added, Resent}
use Rattle.trace_model.specs.declared.entry.Entry.{Entry}
use Rattle.trace_model.specs.declared.limits.Limits.{Limits}
use Rattle.trace_model.specs.declared.refusal.Refusal.{Refusal}
use Rattle.trace_model.specs.declared.refusal.Refusal.TheVariants.{JournalFull, Stale, NoMemory, Conflict}
use Rattle.trace_model.specs.Refusals.{place_of}
use Rattle.trace_model.specs.ResentBatches.{is_sent}
use Rattle.trace_model.proofs.Admissions.{IsSaid, admission_says}
use Rattle.trace_model.proofs.Prefixes.{prefix_get}
use Rattle.read_side.specs.Keepers.{Lists, Answers, accepted, after_admission, admission_after, refusal_after, admit_call}
use Rattle.read_side.specs.Receipts.{StandsAt, AnsweredAt}
use Rattle.intake.specs.Books.{is_accepted, AnsweredIfPlaced}
use Rattle.read_side.proofs.AdmittedPlaces.{last_stands, entry_stands}

-- a keeper refuses an entry, without accepting it, with one of four refusals
pub one-of-four : (P : Refusal → Type 0) (limits : Limits) (k : Lists) (e : Entry) → P NoMemory → ((last : ℕ) → P (Stale last))
    → ((batches spans : ℕ) → P (JournalFull batches spans)) → ((place : ℕ) → P (Conflict place)) → P (unwrap_or (refusal_after limits k e) NoMemory)
one-of-four P limits k e memory stale full conflict = go (admission_after limits k e) (admission_says limits (accepted k) e)
  where
    go : (r : Result Admission Refusal) → IsSaid limits (accepted k) e r → P (unwrap_or (result_err r) NoMemory)
    go (Ok a) s = memory
    go (Err (Stale last)) s = stale last
    go (Err (JournalFull batches spans)) s = full batches spans
    go (Err (Conflict place)) s = conflict place
    go (Err why) s = absurd s

-- the meaning of the admission of an accepted entry
said : (limits : Limits) (k : Lists) (j : Entry) (a : Admission) → admission_after limits k j ≡ Ok a → IsSaid limits (accepted k) j (Ok a)
said limits k j a is = subst (IsSaid limits (accepted k) j) is (admission_says limits (accepted k) j)

-- ---- what the accepted list gains
-- it gains the entry if no earlier one answers for it
accepted-after : (limits : Limits) (k : Lists) (j : Entry) (a : Admission) → IsSaid limits (accepted k) j (Ok a)
    → accepted (after_admission k j a) ≡ accepted k ++ (if not (is_sent (accepted k) j) then j ∷ [] else [])
accepted-after limits k j Added s =
    let P : Bool → Type 0 = λ b. accepted (after_admission k j Added) ≡ accepted k ++ (if not b then j ∷ [] else []) in
    subst P (sym s.unsent) (sym (append_assoc k.published k.pending (j ∷ [])))
accepted-after limits k j (Resent place) s =
    let P : Bool → Type 0 = λ b. accepted k ≡ accepted k ++ (if not b then j ∷ [] else []) in
    subst P (sym s.sent) (sym (append-nil (accepted k)))

-- the accepted list grows by the entry if it was accepted and was not there before
pub judged-accepted : (limits : Limits) (k : Lists) (j : Entry) (r : Result ℕ Refusal) (m : Lists) → Answers (admit_call limits k j m) r
    → accepted m ≡ accepted k ++ (if is_accepted r && not (is_sent (accepted k) j) then j ∷ [] else [])
judged-accepted limits k j (Ok place) m g =
    ap accepted g.2 ∙ (append-nil (accepted (after_admission k j g.0)) ∙ accepted-after limits k j g.0 (said limits k j g.0 g.1))
judged-accepted limits k j (Err why) m g = ⊎_elim
    (λ p. let P : Refusal → Type 0 = λ z. accepted m ≡ accepted k ++ (if is_accepted (Err z) && not (is_sent (accepted k) j) then j ∷ [] else []) in
    let a = p.1.0 in
    subst P (sym p.0) (ap accepted p.1.2 ∙ accepted-after limits k j a (said limits k j a p.1.1)))
    (λ q. let P : Refusal → Type 0 = λ z. accepted m ≡ accepted k ++ (if is_accepted (Err z) && not (is_sent (accepted k) j) then j ∷ [] else []) in
    let same : accepted m ≡ accepted k ++ [] = ap accepted q.0 ∙ sym (append-nil (accepted k)) in
    subst P (sym q.1) (one-of-four P limits k j same (λ l. same) (λ b s. same) (λ place. same)))
    g

-- ---- the entry at the place
pub snoc_get : (xs : List Entry) (j : Entry) (n : ℕ) → n ≡ length xs → slice_get (xs ++ j ∷ []) n ≡ Some j
snoc_get [] j zero e = refl
snoc_get [] j (suc n) e = absurd (omega (arith, e))
snoc_get (x ∷ xs) j zero e = absurd (omega (arith, e))
snoc_get (x ∷ xs) j (suc n) e = snoc_get xs j n (omega (arith, e))

-- an accepted entry has an entry that answers for it in the accepted list afterwards
answered-after : (limits : Limits) (k : Lists) (j : Entry) (a : Admission) → IsSaid limits (accepted k) j (Ok a)
    → AnsweredAt (accepted (after_admission k j a)) (place_of (accepted k) a) j
answered-after limits k j Added s =
    let P : List Entry → Type 0 = λ z. StandsAt z (length (accepted k) + 1) j in
    (j, subst P (append_assoc k.published k.pending (j ∷ [])) (last_stands (accepted k) j), inl refl)
answered-after limits k j (Resent place) s = (s.by, entry_stands (accepted k) place s.by s.stands, inr (s.resent, s.same))

-- a continuation of a list has at a place what the list has there
pub answered-on : (list more : List Entry) (place : ℕ) (j : Entry) → IsPrefix list more → AnsweredAt list place j → AnsweredAt more place j
answered-on list more place j p s = (s.0, (s.1.0, prefix_get list more (place - 1) s.0 p s.1.1), s.2)

-- an entry answers for each acknowledged one at its place of each later list
pub judged-answered : (limits : Limits) (k : Lists) (j : Entry) (r : Result ℕ Refusal) (m : Lists) (list : List Entry)
    → Answers (admit_call limits k j m) r → IsPrefix m.published list → AnsweredIfPlaced list j r
judged-answered limits k j (Err why) m list g p = tt
judged-answered limits k j (Ok place) m list g p =
    let a = g.0 in
    let all : m.published ≡ accepted (after_admission k j a) = ap (λ (z : Lists). z.published) g.2 in
    let P : List Entry → Type 0 = λ z. AnsweredAt z place j in
    let Q : ℕ → Type 0 = λ n. AnsweredAt (accepted (after_admission k j a)) n j in
    answered-on m.published list place j p (subst P (sym all) (subst Q (sym g.3) (answered-after limits k j a (said limits k j a g.1))))
