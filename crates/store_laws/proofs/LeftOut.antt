-- An entry that is added wasn't in the history; one that is refused by a limit or for a conflict is in no longer one.
use Rattle.std.proofs.Common.{◌≡◌, ℕ, ◌<◌, true, false, List, [], ◌∷◌, ◌++◌, length, Some, inl, inr, refl, sym, ap, ◌∙◌, subst, arith, append_assoc}
use Rattle.std.proofs.Common.{length-append}
use Rattle.std.specs.Prelude.{Result, Ok, Err, nat_le, if◌then◌else◌}
use Rattle.std.specs.List.{Contains}
use Rattle.std.specs.Result.{result_err}
use Rattle.std.proofs.lemmas.Bool.{leb-false, or_parts}
use Rattle.std.proofs.lemmas.List.Elements.{Contains-append_cases}
use Rattle.std.proofs.lemmas.List.Folds.{list_any-append}
use Rattle.std.proofs.lemmas.List.Sums.{sum_by-append}
use Rattle.std.proofs.lemmas.Option.{slice_get-get_or}
use Rattle.trace_model.specs.declared.admission.Admission.{Admission}
use Rattle.trace_model.specs.declared.admission.Admission.TheVariants.{Added}
use Rattle.trace_model.specs.declared.entry.Entry.{Entry}
use Rattle.trace_model.specs.declared.limits.Limits.{Limits}
use Rattle.trace_model.specs.declared.refusal.Refusal.{Refusal}
use Rattle.trace_model.specs.declared.refusal.Refusal.TheVariants.{JournalFull, Stale, Conflict}
use Rattle.trace_model.specs.Histories.{last_number, span_count, IsLegal, AboveEach}
use Rattle.trace_model.specs.Refusals.{has_room, admission, refusal_of}
use Rattle.trace_model.specs.ResentBatches.{resends, is_sent}
use Rattle.trace_model.specs.EntryWork.{spans_brought}
use Rattle.trace_model.proofs.Admissions.{IsSaid, MayFollow, IsInConflict, admission_says, admission_anew, follows_added, sent_nowhere}
use Rattle.trace_model.proofs.Legality.{above_each, above_last, legal_front, rises_pushed, sent_once_pushed, span_count_push}
use Rattle.trace_model.proofs.Lists.{split_at}
use Rattle.trace_model.proofs.ResentBatches.{alike}
use Rattle.store_laws.proofs.LegalLists.{each_at}
use Rattle.store_laws.proofs.SentOnce.{back_true, repeat_is_answered}
use mathlib.Core.List.{IsPrefix}

-- the list before an entry, and the list after it
split_entry : (h : List Entry) (e : Entry) → Contains h e → (before : List Entry) × (after : List Entry) × (h ≡ before ++ e ∷ after)
split_entry h e c = let r = split_at h c.0 e (slice_get-get_or h c.0 e c.1 ∙ ap (λ x. Some x) c.2) in (r.0, r.1, r.2)

-- ---- in the history
-- the number of an entry of the list isn't above the last one of its seat
not_above : (h : List Entry) (e : Entry) → Contains h e → last_number e.seat h < e.number → ⊥
not_above h e c above =
    let s = split_entry h e c in
    let n = each_at e s.0 e s.1 (subst (AboveEach e) s.2 (above_each e h above).1) refl in omega arith

pub added_is_new : (limits : Limits) (h : List Entry) (e : Entry) → admission limits h e ≡ Ok Added → Contains h e → ⊥
added_is_new limits h e added c =
    let may : MayFollow limits h e = subst (IsSaid limits h e) added (admission_says limits h e) in not_above h e c may.rises

-- so it isn't refused by a limit, which comes after the numbers
full_is_new : (limits : Limits) (h : List Entry) (e : Entry) (batches spans : ℕ) → admission limits h e ≡ Err (JournalFull batches spans) → Contains h e → ⊥
full_is_new limits h e batches spans full c =
    let said : (batches ≡ length h) × (spans ≡ span_count h) × (is_sent h e ≡ false) = subst (IsSaid limits h e) full (admission_says limits h e) in
    elim (nat_le e.number (last_number e.seat h)) as (λ b. nat_le e.number (last_number e.seat h) ≡ b
    → (if b then Err (Stale (last_number e.seat h)) else if has_room limits h e then Ok Added else Err (JournalFull (length h) (span_count h)))
    ≡ Err (JournalFull batches spans) → ⊥) [
      | true ↦ λ t stale. absurd (cc stale)
      | false ↦ λ f _. not_above h e c (leb-false e.number (last_number e.seat h) f)
    ] refl (sym (admission_anew limits h e (sent_nowhere h e said.2)) ∙ full)

-- nor for another batch of its number, since it answers for itself
conflict_is_new : (limits : Limits) (h : List Entry) (e : Entry) (place : ℕ) → IsLegal limits h → admission limits h e ≡ Err (Conflict place) → Contains h e → ⊥
conflict_is_new limits h e place l conflict c =
    let said : IsInConflict h e place = subst (IsSaid limits h e) conflict (admission_says limits h e) in
    let d = said.with_other in
    let itself : resends e.work e.work ≡ true = alike e.work d.work said.resent e.work ∙ back_true e.work d.work said.resent in
    let s = split_entry h e c in
    let answered = repeat_is_answered limits s.0 e s.1 e (subst (IsLegal limits) s.2 l) itself refl in
    absurd (cc (sym conflict ∙ (ap (λ k. admission limits k e) s.2 ∙ answered)))

-- ---- after the history
-- a number that is above each one of a list is above each one of its prefix
above_front : (e : Entry) (h more : List Entry) → AboveEach e (h ++ more) → AboveEach e h
above_front e [] more a = tt
above_front e (d ∷ h) more a = (a.0, above_front e h more a.1)

-- the last entry of a legal list would be added to each of its prefixes
added_now : (limits : Limits) (h between : List Entry) (e : Entry) → IsLegal limits ((h ++ between) ++ e ∷ []) → admission limits h e ≡ Ok Added
added_now limits h between e l =
    let above = rises_pushed [] (h ++ between) e l.rising in
    let unsent = sent_once_pushed [] (h ++ between) e l.sent_once in
    follows_added limits h e (record {
      rises = above_last e h above.0 (above_front e h between above.1);
      unsent = (or_parts (is_sent h e) _ (sym (list_any-append (λ (d : Entry). resends e.work d.work) h between) ∙ unsent)).0;
      batches = omega (arith, l.batches, length-append (h ++ between) (e ∷ []), length-append h between);
      spans = omega (arith, l.spans, span_count_push (h ++ between) e, sum_by-append (λ (x : Entry). length (spans_brought x.work)) h between);
    })

later_is_added : (limits : Limits) (h more : List Entry) (e : Entry) → IsLegal limits (h ++ more) → Contains more e → admission limits h e ≡ Ok Added
later_is_added limits h more e l c =
    let s = split_entry more e c in
    let parts : h ++ more ≡ ((h ++ s.0) ++ e ∷ []) ++ s.1 =
    ap (λ k. h ++ k) s.2 ∙ (sym (append_assoc h s.0 (e ∷ s.1)) ∙ sym (append_assoc (h ++ s.0) (e ∷ []) s.1)) in
    added_now limits h s.0 e (legal_front limits ((h ++ s.0) ++ e ∷ []) s.1 (subst (IsLegal limits) parts l))

-- ---- both
refused : (r : Result Admission Refusal) (why : Refusal) → result_err r ≡ Some why → r ≡ Err why
refused (Ok a) why e = absurd cc
refused (Err w) why e = cc e

stays_out : (limits : Limits) (h k : List Entry) (e : Entry) (why : Refusal) → IsPrefix h k → IsLegal limits k → admission limits h e ≡ Err why
    → (IsLegal limits h → Contains h e → ⊥) → Contains k e → ⊥
stays_out limits h k e why p l denied new c =
    let whole : IsLegal limits (h ++ p.0) = subst (IsLegal limits) (sym p.1) l in
    elim (Contains-append_cases h p.0 e (subst (λ x. Contains x e) (sym p.1) c)) as (λ _. ⊥) [
      | inl here ↦ new (legal_front limits h p.0 whole) here
      | inr later ↦ absurd (cc (sym denied ∙ later_is_added limits h p.0 e whole later))
    ]

pub full_stays_out : (limits : Limits) (h k : List Entry) (e : Entry) (batches spans : ℕ) → IsPrefix h k → IsLegal limits k
    → refusal_of limits h e ≡ Some (JournalFull batches spans) → Contains k e → ⊥
full_stays_out limits h k e batches spans p l why c =
    let denied = refused (admission limits h e) (JournalFull batches spans) why in
    stays_out limits h k e (JournalFull batches spans) p l denied (λ _. full_is_new limits h e batches spans denied) c

pub conflict_stays_out : (limits : Limits) (h k : List Entry) (e : Entry) (place : ℕ) → IsPrefix h k → IsLegal limits k
    → refusal_of limits h e ≡ Some (Conflict place) → Contains k e → ⊥
conflict_stays_out limits h k e place p l why c =
    let denied = refused (admission limits h e) (Conflict place) why in
    stays_out limits h k e (Conflict place) p l denied (λ legal. conflict_is_new limits h e place legal denied) c
