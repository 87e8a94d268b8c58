-- A run over a store with one owner is exact.
use Rattle.std.proofs.Common.{◌≡◌, ◌≢◌, ℕ, ◌⊎◌, List, [], ◌∷◌, map, Result, Ok, Err, refl, sym, ap, ◌∙◌, inl, inr}
use Rattle.std.specs.Option.{unwrap_or}
use Rattle.std.specs.Result.{result_err}
use Rattle.std.proofs.lemmas.List.Elements.{All-head, All-tail}
use Rattle.jaeger_model.specs.declared.batch.Batch.{Batch}
use Rattle.trace_model.specs.declared.admission.Admission.{Admission}
use Rattle.trace_model.specs.declared.refusal.Refusal.{Refusal}
use Rattle.trace_model.specs.declared.refusal.Refusal.TheVariants.{NoMemory}
use Rattle.trace_model.specs.LimitedHistories.{LimitedHistory}
use Rattle.trace_model.specs.Refusals.{with_admitted}
use Rattle.arrival_journal.specs.Journals.{admission_by, turned_away_by}
use Rattle.span_store.specs.NextEntry.{next_entry}
use Rattle.pipe_session.specs.DirectCalls.{DirectSubmits, direct_store}
use Rattle.http_session.specs.Sessions.{Exchange, Step, Run}
use Rattle.http_session.specs.declared.verdict.Verdict.{Verdict}
use Rattle.http_session.specs.declared.verdict.Verdict.TheVariants.{Submit, Ask, Reject}
use Rattle.http_session.specs.declared.reply.Reply.{Reply}
use Rattle.http_session.specs.declared.reply.Reply.TheVariants.{Accepted, Answered, Refused, Error}
use Rattle.pipe_session.specs.ExactAnswers.{reply_by, reply_at, held_after, replies_at, held_at_last, IsExact}

abbrev Exactly : LimitedHistory → Verdict → Reply → LimitedHistory → Type 0
Exactly s v reply t = (reply ≡ reply_at s v) × (t ≡ held_after s v)

abbrev answered : Result Admission Refusal → Reply
answered r = reply_by (result_err r)

taken : (s t : LimitedHistory) (b : Batch) (place : ℕ) → DirectSubmits s b (Ok place) t → Exactly s (Submit b) Accepted t
taken s t b place d = (sym (ap answered d.1), d.3 ∙ sym (ap (with_admitted s (next_entry s b)) d.1))

-- a refusal other than running out of memory is the entries' own
refused_by : (r : Result Admission Refusal) (s t : LimitedHistory) (b : Batch) (why : Refusal) → admission_by s (next_entry s b) ≡ r → why ≢ NoMemory → t ≡ s
    → (why ≡ NoMemory) ⊎ (why ≡ turned_away_by s (next_entry s b)) → Exactly s (Submit b) (Refused why) t
refused_by r s t b why is memory same (inl none) = absurd (memory none)
refused_by (Ok a) s t b why is memory same (inr reported) = absurd (memory (reported ∙ ap (λ r. unwrap_or (result_err r) NoMemory) is))
refused_by (Err own) s t b why is memory same (inr reported) =
    let reason : why ≡ own = reported ∙ ap (λ r. unwrap_or (result_err r) NoMemory) is in
    (ap Refused reason ∙ sym (ap answered is), same ∙ sym (ap (with_admitted s (next_entry s b)) is))

one : (s t : LimitedHistory) (v : Verdict) (reply : Reply) → reply ≢ Refused NoMemory → Step direct_store s v reply t → Exactly s v reply t
one s t (Submit b) Accepted m step = taken s t b step.0 step.1
one s t (Submit b) (Refused why) m step = refused_by (admission_by s (next_entry s b)) s t b why refl (λ e. m (ap Refused e)) step.0 step.1
one s t (Ask q) (Answered a) m step = (ap Answered step.1, step.0)
one s t (Ask q) (Refused why) m step = absurd (m (ap Refused step.1))
one s t (Reject error) (Error said) m step = (ap Error step.0, step.1)
one s t _ _ m step = absurd step

pub exact : (s t : LimitedHistory) (xs : List Exchange) → Run direct_store s xs t → IsExact s xs t
exact s t [] run m = (refl, run)
exact s t (x ∷ xs) run m =
    let now = one s run.0 x.verdict x.reply (All-head (λ (x : Exchange). x.reply ≢ Refused NoMemory) x xs m) run.1 in
    let later = exact run.0 t xs run.2 (All-tail (λ (x : Exchange). x.reply ≢ Refused NoMemory) x xs m) in
    let vs = map (λ (y : Exchange). y.verdict) xs in (
      ap (λ (l : List Reply). x.reply ∷ l) later.0 ∙ ap (λ (r : Reply). r ∷ replies_at run.0 vs) now.0
          ∙ ap (λ (h : LimitedHistory). reply_at s x.verdict ∷ replies_at h vs) now.1,
      later.1 ∙ ap (λ (h : LimitedHistory). held_at_last h vs) now.1,
    )
