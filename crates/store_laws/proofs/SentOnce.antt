-- No batch with a number is in a legal list twice; the answer to one that is submitted again.
use Rattle.std.proofs.Common.{◌≡◌, ℕ, suc, ◌+◌, ◌<◌, Bool, true, false, Some, None, List, [], ◌∷◌, ◌++◌, length, fold, refl, sym, ap, ◌∙◌, subst, append_assoc}
use Rattle.std.proofs.Common.{add-one, inl, inr, zero}
use Rattle.std.specs.Prelude.{Result, Ok, Err, position, if◌then◌else◌}
use Rattle.std.specs.Option.{is_some}
use Rattle.std.specs.List.{list_any}
use Rattle.std.proofs.lemmas.Bool.{false≢true, false_from_ne_true, cases_order, or_parts, or_from}
use Rattle.std.proofs.lemmas.List.{append-nil, get_or_append_left, get_or_at}
use Rattle.std.proofs.lemmas.List.Folds.{list_any-append, list_any_at}
use Rattle.std.proofs.lemmas.List.Quantifiers.{position-Some}
use Rattle.std.proofs.lemmas.List.Sums.{fold-append}
use Rattle.jaeger_model.specs.declared.batch.Batch.{Batch}
use Rattle.trace_model.specs.declared.admission.Admission.{Admission}
use Rattle.trace_model.specs.declared.admission.Admission.TheVariants.{Added, Resent}
use Rattle.trace_model.specs.declared.entry.Entry.{Entry}
use Rattle.trace_model.specs.declared.entry.Work.{Work}
use Rattle.trace_model.specs.declared.entry.Work.TheVariants as brings
use Rattle.trace_model.specs.declared.limits.Limits.{Limits}
use Rattle.trace_model.specs.declared.refusal.Refusal.{Refusal}
use Rattle.trace_model.specs.declared.refusal.Refusal.TheVariants.{Conflict}
use Rattle.trace_model.specs.Histories.{IsLegal}
use Rattle.trace_model.specs.ResentBatches.{resends, is_sent, SentOnceAfter, AnswersFor}
use Rattle.trace_model.specs.Refusals.{admission, admitted_anew, with_admitted, history_after, history_of}
use Rattle.trace_model.specs.WorkLaws.{same_work-decides}
use Rattle.trace_model.specs.EntryWork.{same_work}
use Rattle.trace_model.specs.Places.{entry_at}
use Rattle.trace_model.proofs.Admissions.{none_passes, IsAnswered, IsSaid, admission_says, admission_repeated, admission_anew}
use Rattle.trace_model.proofs.Legality.{legal_empty}
use Rattle.trace_model.proofs.Lists.{split_at}
use Rattle.trace_model.proofs.Prefixes.{prefix_self, prefix_trans}
use Rattle.trace_model.proofs.ResentBatches.{sent_as, as_sent, limit_not_sent, unnumbered_not_sent, nothing_sent, alike}
use Rattle.store_laws.specs.Submits.{IsThereOnce}
use Rattle.store_laws.proofs.LegalLists.{legal_snoc}
use mathlib.Core.List.{IsPrefix}

-- ---- batches of one process and number
pub back_true : (v w : Work) → resends v w ≡ true → resends w v ≡ true
back_true (brings.Batch a) (brings.Batch b) e =
    let o = sent_as a b e in
    as_sent b a (record { numbered = ap is_some (sym o.number) ∙ o.numbered; number = sym o.number; process = sym o.process })
back_true (brings.Batch a) (brings.TraceLimit n) e = absurd (false≢true e)
back_true (brings.TraceLimit m) (brings.Batch b) e = absurd (false≢true e)
back_true (brings.TraceLimit m) (brings.TraceLimit n) e = absurd (false≢true e)

back_false : (v w : Work) → resends v w ≡ false → resends w v ≡ false
back_false v w e = false_from_ne_true (resends w v) (λ at. false≢true (sym e ∙ back_true w v at))

-- ---- lists
-- a test that passes no item of a list passes none of its parts
pub none_passed : {X : Type 0} (p : X → Bool) (front : List X) (x : X) (rest : List X) → list_any p (front ++ x ∷ rest) ≡ false → (list_any p front ≡ false)
    × (p x ≡ false) × (list_any p rest ≡ false)
none_passed p front x rest e =
    let parts = or_parts (list_any p front) _ (sym (list_any-append p front (x ∷ rest)) ∙ e) in
    let last = or_parts (p x) _ parts.1 in (parts.0, last.0, last.1)

-- the first that passes comes after those that don't
first_passed : {X : Type 0} (p : X → Bool) (front : List X) (x : X) (rest : List X) → list_any p front ≡ false → p x ≡ true
    → position p (front ++ x ∷ rest) ≡ Some (length front)
first_passed p front x rest none here = elim (position p (front ++ x ∷ rest)) as (λ o. position p (front ++ x ∷ rest) ≡ o → o ≡ Some (length front)) [
  | None ↦ λ at. absurd (false≢true (sym (none_passed p front x rest (none_passes p (front ++ x ∷ rest) at)).1 ∙ here))
  | Some i ↦ λ at.
      let found = position-Some p (front ++ x ∷ rest) i x at in
      let not_before : i < length front → ⊥ =
      λ l. false≢true (sym none ∙ list_any_at p front i x l (ap p (sym (get_or_append_left front (x ∷ rest) x i l)) ∙ found.1)) in
      let not_behind : length front < i → ⊥ = λ l. false≢true (sym (found.2 (length front) l) ∙ (ap p (get_or_at front x rest x (length front) refl) ∙ here)) in
      let there : i ≡ length front = elim (cases_order i (length front)) [
        | inl same ↦ same
        | inr other ↦ elim other [ inl l ↦ absurd (not_before l) | inr l ↦ absurd (not_behind l) ]
      ] in
      ap (λ n. Some n) there
] refl

-- ---- no batch is there twice
pub sent_once_back : (before h rest : List Entry) → SentOnceAfter before (h ++ rest) → SentOnceAfter (before ++ h) rest
sent_once_back before [] rest r = subst (λ l. SentOnceAfter l rest) (sym (append-nil before)) r
sent_once_back before (e ∷ h) rest r = subst (λ l. SentOnceAfter l rest) (append_assoc before (e ∷ []) h) (sent_once_back (before ++ e ∷ []) h rest r.1)

-- the entry after the front was not sent before it
sent_once_at : (limits : Limits) (front : List Entry) (d : Entry) (rest : List Entry) → IsLegal limits (front ++ d ∷ rest) → (is_sent front d ≡ false)
    × SentOnceAfter (front ++ d ∷ []) rest
sent_once_at limits front d rest l = sent_once_back [] front (d ∷ rest) l.sent_once

unsent_behind : (d e : Entry) → resends e.work d.work ≡ true → (front mid rest : List Entry) → SentOnceAfter (front ++ d ∷ mid) rest → is_sent rest e ≡ false
unsent_behind d e s front mid [] r = refl
unsent_behind d e s front mid (x ∷ rest) r =
    let other = (none_passed (λ (y : Entry). resends x.work y.work) front d mid r.0).1 in
    or_from (resends e.work x.work) _ (alike e.work d.work s x.work ∙ back_false x.work d.work other)
    (unsent_behind d e s front (mid ++ x ∷ []) rest (subst (λ l. SentOnceAfter l rest) (append_assoc front (d ∷ mid) (x ∷ [])) r.1))

-- of two entries of a legal list the later one was not sent as the other
pub never_sent_twice : (limits : Limits) (before : List Entry) (d : Entry) (between : List Entry) (f : Entry) (after : List Entry)
    → IsLegal limits (before ++ d ∷ (between ++ f ∷ after)) → resends f.work d.work ≡ false
never_sent_twice limits before d between f after l =
    let r : SentOnceAfter [] ((before ++ d ∷ between) ++ f ∷ after) =
    subst (SentOnceAfter []) (sym (append_assoc before (d ∷ between) (f ∷ after))) l.sent_once in
    (none_passed (λ (y : Entry). resends f.work y.work) before d between (sent_once_back [] (before ++ d ∷ between) (f ∷ after) r).0).1

-- ---- an entry that is submitted again
-- no entry before the one that has its batch was sent as it
unsent_in_front : (limits : Limits) (front : List Entry) (d : Entry) (rest : List Entry) (e : Entry) → IsLegal limits (front ++ d ∷ rest)
    → resends e.work d.work ≡ true → is_sent front e ≡ false
unsent_in_front limits front d rest e l s = all_alike front (sent_once_at limits front d rest l).0
  where
    all_alike : (xs : List Entry) → is_sent xs d ≡ false → is_sent xs e ≡ false
    all_alike [] n = refl
    all_alike (x ∷ xs) n =
        let parts = or_parts (resends d.work x.work) _ n in
        or_from (resends e.work x.work) _ (alike e.work d.work s x.work ∙ parts.0) (all_alike xs parts.1)

again_at : (limits : Limits) (front : List Entry) (d : Entry) (rest : List Entry) (e : Entry) → IsLegal limits (front ++ d ∷ rest)
    → resends e.work d.work ≡ true
    → admission limits (front ++ d ∷ rest) e ≡ (if same_work e.work d.work then Ok (Resent (suc (length front))) else Err (Conflict (suc (length front))))
again_at limits front d rest e l s =
    admission_repeated limits (front ++ d ∷ rest) e (length front)
    (first_passed (λ (x : Entry). resends e.work x.work) front d rest (unsent_in_front limits front d rest e l s) s)
    ∙ ap (λ (x : Entry). if same_work e.work x.work then Ok (Resent (suc (length front))) else Err (Conflict (suc (length front))))
    (get_or_at front d rest e (length front) refl)

pub repeat_is_answered : (limits : Limits) (front : List Entry) (d : Entry) (rest : List Entry) (e : Entry) → IsLegal limits (front ++ d ∷ rest)
    → resends e.work d.work ≡ true → d.work ≡ e.work
    → admission limits (front ++ d ∷ rest) e ≡ Ok (Resent (length front + 1))
repeat_is_answered limits front d rest e l s same =
    again_at limits front d rest e l s
    ∙ ap (λ (b : Bool). if b then Ok (Resent (suc (length front))) else Err (Conflict (suc (length front)))) ((same_work-decides e.work d.work).1 (sym same))
    ∙ ap (λ n. Ok (Resent n)) (sym (add-one (length front)))

pub damaged_is_refused : (limits : Limits) (front : List Entry) (d : Entry) (rest : List Entry) (e : Entry) → IsLegal limits (front ++ d ∷ rest)
    → resends e.work d.work ≡ true → (d.work ≡ e.work → ⊥)
    → admission limits (front ++ d ∷ rest) e ≡ Err (Conflict (length front + 1))
damaged_is_refused limits front d rest e l s other =
    again_at limits front d rest e l s
    ∙ ap (λ (b : Bool). if b then Ok (Resent (suc (length front))) else Err (Conflict (suc (length front))))
    (false_from_ne_true (same_work e.work d.work) (λ t. other (sym ((same_work-decides e.work d.work).0 t))))
    ∙ ap (λ n. Err (Conflict n)) (sym (add-one (length front)))

-- what was never sent before is judged by its number and the limits
pub unnumbered_anew : (limits : Limits) (h : List Entry) (e : Entry) (b : Batch) → e.work ≡ brings.Batch b → b.seq_no ≡ None
    → admission limits h e ≡ admitted_anew limits h e
unnumbered_anew limits h e b is none = admission_anew limits h e (nothing_sent h e (λ x. ap (λ w. resends w x) is ∙ unnumbered_not_sent b none x))

pub limit_anew : (limits : Limits) (h : List Entry) (e : Entry) (n : ℕ) → e.work ≡ brings.TraceLimit n → admission limits h e ≡ admitted_anew limits h e
limit_anew limits h e n is = admission_anew limits h e (nothing_sent h e (λ x. ap (λ w. resends w x) is ∙ limit_not_sent n x))

-- ---- entries that are submitted
-- one more keeps the history legal, and is a prefix of it
behind_legal : (limits : Limits) (h : List Entry) (e : Entry) (r : Result Admission Refusal) → admission limits h e ≡ r → IsLegal limits h
    → IsLegal limits (with_admitted (record { limits = limits; entries = h }) e r).entries
    × IsPrefix h (with_admitted (record { limits = limits; entries = h }) e r).entries
behind_legal limits h e (Ok Added) at l = (legal_snoc limits h e l at, (e ∷ [], refl))
behind_legal limits h e (Ok (Resent place)) at l = (l, prefix_self h)
behind_legal limits h e (Err why) at l = (l, prefix_self h)

-- and so do any number of entries
later : (limits : Limits) (h es : List Entry) → IsLegal limits h → IsLegal limits (fold (history_after limits) h es)
    × IsPrefix h (fold (history_after limits) h es)
later limits h [] l = (l, prefix_self h)
later limits h (e ∷ es) l =
    let next = behind_legal limits h e (admission limits h e) refl l in
    let last = later limits (history_after limits h e) es next.0 in
    (last.0, prefix_trans h (history_after limits h e) (fold (history_after limits) (history_after limits h e) es) next.1 last.1)

-- the list before an entry, and the list after it
split_place : (h : List Entry) (place : ℕ) (d : Entry) → entry_at h place ≡ Some d → (front : List Entry) × (rest : List Entry) × (h ≡ front ++ d ∷ rest)
split_place h zero d e = absurd cc
split_place h (suc n) d e = let r = split_at h n d e in (r.0, r.1, r.2)

once_by : (limits : Limits) (h front : List Entry) (d : Entry) (rest : List Entry) (e : Entry) → h ≡ front ++ d ∷ rest → IsLegal limits h → AnswersFor d e
    → resends e.work d.work ≡ true → IsThereOnce h e
once_by limits h front d rest e whole legal answers s =
    let l : IsLegal limits (front ++ d ∷ rest) = subst (IsLegal limits) whole legal in
    record {
      front = front;
      by = d;
      rest = rest;
      whole = whole;
      answers = answers;
      none_before = unsent_in_front limits front d rest e l s;
      none_behind = unsent_behind d e s front [] rest (sent_once_at limits front d rest l).1;
    }

-- a history with a prefix that has it once
once_since : (limits : Limits) (h front : List Entry) (d : Entry) (rest : List Entry) (e : Entry) (k : List Entry) → h ≡ front ++ d ∷ rest → IsPrefix h k
    → IsLegal limits k → AnswersFor d e → resends e.work d.work ≡ true → IsThereOnce k e
once_since limits h front d rest e k whole more legal answers s =
    once_by limits k front d (rest ++ more.0) e (sym more.1 ∙ (ap (λ l. l ++ more.0) whole ∙ append_assoc front (d ∷ rest) more.0)) legal answers s

once_at : (limits : Limits) (h : List Entry) (e : Entry) (r : Result Admission Refusal) (a : Admission) (k : List Entry) → admission limits h e ≡ r → r ≡ Ok a
    → resends e.work e.work ≡ true
    → IsPrefix (with_admitted (record { limits = limits; entries = h }) e r).entries k → IsLegal limits k → IsThereOnce k e
once_at limits h e (Ok Added) a k at is numbered more legal = once_since limits (h ++ e ∷ []) h e [] e k refl more legal (inl refl) numbered
once_at limits h e (Ok (Resent place)) a k at is numbered more legal =
    let said : IsAnswered h e place = subst (IsSaid limits h e) at (admission_says limits h e) in
    let split = split_place h place said.by said.stands in
    once_since limits h split.0 said.by split.1 e k split.2 more legal (inr (said.resent, said.same)) said.resent
once_at limits h e (Err why) a k at is numbered more legal = absurd cc

pub stands_once : (limits : Limits) (before : List Entry) (e : Entry) (after : List Entry) (a : Admission)
    → admission limits (history_of limits before) e ≡ Ok a → resends e.work e.work ≡ true → IsThereOnce (history_of limits (before ++ e ∷ after)) e
stands_once limits before e after a at numbered =
    let h = history_of limits before in
    let start = later limits [] before (legal_empty limits) in
    let next = behind_legal limits h e (admission limits h e) refl start.0 in
    let last = later limits (history_after limits h e) after next.0 in
    let joined : history_of limits (before ++ e ∷ after) ≡ fold (history_after limits) (history_after limits h e) after =
    fold-append (history_after limits) [] before (e ∷ after) in
    subst (λ k. IsThereOnce k e) (sym joined)
    (once_at limits h e (admission limits h e) a (fold (history_after limits) (history_after limits h e) after) refl at numbered last.1 last.0)
