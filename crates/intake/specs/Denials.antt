-- The claim of a denial: by which list an entry is refused, and that the reason is true of it.
use Rattle.std.specs.Prelude.{◌≡◌, ◌⊎◌, List, Option, Some, None, Ok}
use Rattle.trace_model.specs.declared.admission.Admission.{Admission}
use Rattle.trace_model.specs.declared.entry.Entry.{Entry}
use Rattle.trace_model.specs.declared.limits.Limits.{Limits}
use Rattle.trace_model.specs.declared.refusal.Refusal.{Refusal}
use Rattle.trace_model.specs.declared.refusal.Refusal.TheVariants.{JournalFull, Stale, NoMemory, Deferred, Closed, NoReply, Conflict}
use Rattle.trace_model.specs.Refusals.{admission, refusal_of}

-- the list would accept the entry, or has its batch already
abbrev pub IsAdmissible : Limits → List Entry → Entry → Type 0
IsAdmissible limits list e = (a : Admission) × (admission limits list e ≡ Ok a)

-- a refusal by the keeper: the list leaves the entry out for this reason; or it would accept the entry, or has its batch, and there
-- was no memory to add it (NoMemory) or to publish it (Deferred)
abbrev pub IsReasonBy : Limits → List Entry → Entry → Refusal → Type 0
IsReasonBy limits list e (JournalFull batches spans) = refusal_of limits list e ≡ Some (JournalFull batches spans)
IsReasonBy limits list e (Stale last) = refusal_of limits list e ≡ Some (Stale last)
IsReasonBy limits list e (Conflict place) = refusal_of limits list e ≡ Some (Conflict place)
IsReasonBy limits list e NoMemory = IsAdmissible limits list e
IsReasonBy limits list e Deferred = IsAdmissible limits list e
IsReasonBy limits list e _ = ⊥

-- the refusal of a job, as its ticket gets it: by the keeper, which judged by this list; or without a list, since the clerk
-- ended without judging
abbrev pub IsDenied : Limits → Entry → Refusal → Option (List Entry) → Type 0
IsDenied limits e why (Some list) = IsReasonBy limits list e why
IsDenied limits e why None = (why ≡ Closed) ⊎ (why ≡ NoReply)

-- the refusal of a job, as its ticket gets it without the list: by the keeper, which judged by some list, or since the clerk
-- ended
abbrev pub IsDeniedSomehow : Limits → Entry → Refusal → Type 0
IsDeniedSomehow limits e why = (list : Option (List Entry)) × IsDenied limits e why list
