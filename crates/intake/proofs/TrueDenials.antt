-- The keeper's refusal of an entry is true of all that it had accepted.
use Rattle.std.proofs.Common.{◌≡◌, List, refl, subst, sym, ap, ⊎_elim, Some, None, Option, Result, Ok, Err}
use Rattle.std.specs.Option.{unwrap_or}
use Rattle.std.specs.Result.{result_err}
use Rattle.trace_model.specs.declared.admission.Admission.{Admission}
use Rattle.trace_model.specs.declared.entry.Entry.{Entry}
use Rattle.trace_model.specs.declared.limits.Limits.{Limits}
use Rattle.trace_model.specs.declared.refusal.Refusal.{Refusal}
use Rattle.trace_model.specs.declared.refusal.Refusal.TheVariants.{JournalFull, Stale, NoMemory, Deferred, Conflict}
use Rattle.trace_model.specs.Refusals.{admission}
use Rattle.trace_model.proofs.Admissions.{IsSaid, admission_says}
use Rattle.read_side.specs.Keepers.{Lists, accepted, admit_call, RefusesEntry}
use Rattle.intake.specs.Seats.{IsUnacknowledged}
use Rattle.intake.specs.Denials.{IsReasonBy, IsDenied}

left-out : (limits : Limits) (list : List Entry) (e : Entry) (r : Result Admission Refusal) → admission limits list e ≡ r → IsSaid limits list e r
    → IsReasonBy limits list e (unwrap_or (result_err r) NoMemory)
left-out limits list e (Ok a) is s = (a, is)
left-out limits list e (Err (Stale last)) is s = ap result_err is
left-out limits list e (Err (JournalFull batches spans)) is s = ap result_err is
left-out limits list e (Err (Conflict place)) is s = ap result_err is
left-out limits list e (Err why) is s = absurd s

pub refused-left-out : (limits : Limits) (k : Lists) (e : Entry) (why : Refusal) (m : Lists) → RefusesEntry (admit_call limits k e m) why
    → IsReasonBy limits (accepted k) e why
refused-left-out limits k e why m t = ⊎_elim
    (λ p. subst (IsReasonBy limits (accepted k) e) (sym p.0) (p.1.0, p.1.1))
    (λ q. subst (IsReasonBy limits (accepted k) e) (sym q.1)
    (left-out limits (accepted k) e (admission limits (accepted k) e) refl (admission_says limits (accepted k) e)))
    t

left-unacknowledged : (limits : Limits) (list : List Entry) (e : Entry) (why : Refusal) → IsReasonBy limits list e why → IsUnacknowledged why
left-unacknowledged limits list e (JournalFull batches spans) d = tt
left-unacknowledged limits list e (Stale last) d = tt
left-unacknowledged limits list e (Conflict place) d = tt
left-unacknowledged limits list e NoMemory d = tt
left-unacknowledged limits list e Deferred d = tt
left-unacknowledged limits list e why d = absurd d

-- the reason of a denial is one of those for which a job isn't acknowledged
pub denied-unacknowledged : (limits : Limits) (e : Entry) (why : Refusal) (list : Option (List Entry)) → IsDenied limits e why list → IsUnacknowledged why
denied-unacknowledged limits e why (Some list) d = left-unacknowledged limits list e why d
denied-unacknowledged limits e why None d = ⊎_elim (λ c. subst IsUnacknowledged (sym c) tt) (λ n. subst IsUnacknowledged (sym n) tt) d
