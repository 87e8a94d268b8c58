-- The place of an admitted entry.
use Rattle.std.proofs.Common.{◌≡◌, inl, inr, ℕ, zero, suc, ◌+◌, ◌-◌, List, [], ◌∷◌, ◌++◌, length, Some, Result, Ok, Err, refl, sym, ap, ◌∙◌, subst}
use Rattle.std.proofs.Common.{append_assoc, arith, length-append}
use Rattle.std.specs.Prelude.{IfOk, OnOk, IfSome, slice_get}
use Rattle.std.proofs.lemmas.List.{get_or_push}
use Rattle.std.proofs.lemmas.Option.{slice_get_read}
use Rattle.trace_model.specs.declared.admission.Admission.{Admission}
use Rattle.trace_model.specs.declared.admission.Admission.TheVariants.{Resent}
use Rattle.trace_model.specs.declared.entry.Entry.{Entry}
use Rattle.trace_model.specs.declared.limits.Limits.{Limits}
use Rattle.trace_model.specs.declared.refusal.Refusal.{Refusal}
use Rattle.trace_model.specs.Places.{entry_at}
use Rattle.trace_model.proofs.Admissions.{IsSaid, IsAnswered, admission_says}
use Rattle.read_side.specs.Keepers.{Lists, accepted, with_pending, all_published, admission_after}
use Rattle.read_side.specs.Receipts.{ReceiptValue, StandsAt, AnsweredAt}

-- an appended entry is at the end of the list
pub last_stands : (h : List Entry) (e : Entry) → StandsAt (h ++ e ∷ []) (length h + 1) e
last_stands h e =
    let before : length h ≡ length h + 1 - 1 = omega arith in
    let long : length h + 1 ≡ length (h ++ e ∷ []) = omega (arith, length-append h (e ∷ [])) in
    (omega arith, slice_get_read (h ++ e ∷ []) (length h + 1) (length h + 1 - 1) e long (omega arith) (sym (get_or_push h e e (length h + 1 - 1) before)))

-- so is an entry that was added, after it is published
pub added_stands : (k new : Lists) (e : Entry) → new ≡ all_published (with_pending k e) → StandsAt new.published (length (accepted k) + 1) e
added_stands k new e is =
    let whole : new.published ≡ accepted k ++ e ∷ [] = ap (λ n. n.published) is ∙ sym (append_assoc k.published k.pending (e ∷ [])) in
    let P : List Entry → Type 0 = λ z. StandsAt z (length (accepted k) + 1) e in
    subst P (sym whole) (last_stands (accepted k) e)

pub entry_stands : (h : List Entry) (place : ℕ) (e : Entry) → entry_at h place ≡ Some e → StandsAt h place e
entry_stands h zero e at = absurd (cc)
entry_stands h (suc before) e at =
    let same : before ≡ suc before - 1 = omega arith in
    (omega arith, subst (λ n. slice_get h n ≡ Some e) same at)

-- the entry at the place answers for one whose batch was sent before
pub said_again : (limits : Limits) (k : Lists) (e : Entry) (place : ℕ) → admission_after limits k e ≡ Ok (Resent place) → IsAnswered (accepted k) e place
said_again limits k e place is = let P : Result Admission Refusal → Type 0 = IsSaid limits (accepted k) e in subst P is (admission_says limits (accepted k) e)

-- a receipt of an entry that was added, and of one whose batch was sent before
pub added_answered : (k new : Lists) (e : Entry) (r : Result ReceiptValue Refusal) → OnOk r (new ≡ all_published (with_pending k e))
    → IfOk r (λ x. x.entries ≡ new.published) → IfOk r (λ x. x.place ≡ Some (length (accepted k) + 1))
    → IfOk r (λ x. IfSome x.place (λ place. AnsweredAt x.entries place e))
added_answered k new e (Err why) is entries at = tt
added_answered k new e (Ok x) is entries at = rw (at, entries) (e, added_stands k new e is, inl refl)

pub resent_answered : (k new : Lists) (e : Entry) (n : ℕ) (r : Result ReceiptValue Refusal) → IsAnswered (accepted k) e n → OnOk r (new ≡ all_published k)
    → IfOk r (λ x. x.entries ≡ new.published) → IfOk r (λ x. x.place ≡ Some n)
    → IfOk r (λ x. IfSome x.place (λ place. AnsweredAt x.entries place e))
resent_answered k new e n (Err why) said is entries at = tt
resent_answered k new e n (Ok x) said is entries at =
    let all : new.published ≡ accepted k = ap (λ l. l.published) is in
    rw (at, entries, all) (said.by, entry_stands (accepted k) n said.by said.stands, inr (said.resent, said.same))
