-- Laws that the impls of this crate name, and their lemmas. A clause can't name its own crate's proofs/, so they are in
-- specs/. A direct store meets the laws of every backend: SubmitKnows and ReadKnows of trace_model.
use Rattle.std.specs.Prelude.{◌≡◌, ℕ, ◌⊎◌, List, [], ◌++◌, Option, Some, None, Result, Ok, Err, refl}
use Rattle.std.specs.Option.{unwrap_or}
use Rattle.std.proofs.Common.{append_assoc, sym, ◌∙◌, ap, subst, append-nil, inl, inr, ⊎_elim}
use Rattle.jaeger_model.specs.declared.batch.Batch.{Batch}
use Rattle.trace_model.specs.declared.query.Query.{Query}
use Rattle.trace_model.specs.declared.answer.Answer.{Answer}
use Rattle.trace_model.specs.declared.entry.Entry.{Entry}
use Rattle.trace_model.specs.declared.limits.Limits.{Limits}
use Rattle.trace_model.specs.declared.refusal.Refusal.{Refusal}
use Rattle.trace_model.specs.declared.refusal.Refusal.TheVariants.{JournalFull, Stale, NoMemory, Deferred, Busy, Closed, Stranger, NoReply, Behind}
use Rattle.trace_model.specs.declared.refusal.Refusal.TheVariants.{Conflict, Gone}
use Rattle.trace_model.specs.LimitedHistories.{LimitedHistory}
use Rattle.trace_model.specs.Refusals.{with_admitted}
use Rattle.trace_model.specs.StoreKnowledge.{KnownList, reached, refused, HasAt, ForgetsNothing, RefusesBatch, KnowsRefusal, SubmitKnows, ReadKnows}
use Rattle.arrival_journal.specs.Journals.{refusal_by}
use Rattle.span_store.specs.NextEntry.{next_entry}
use Rattle.pipe_session.specs.SubmittedBatchLaws.{grows, limits_stay, has_batch}
use Rattle.pipe_session.specs.DirectCalls.{DirectKnows, DirectSubmits, DirectReads}

keeps : (s t : LimitedHistory) → t ≡ s → ForgetsNothing (λ (x : LimitedHistory). x.limits) DirectKnows s t
keeps s t e = record { same_limits = ap (λ (x : LimitedHistory). x.limits) e; knowledge = λ it k. subst (λ (x : LimitedHistory). DirectKnows x it) (sym e) k }

-- what is known of the entries is known of more entries
knows_more : (s t : LimitedHistory) (more : List Entry) → t.limits ≡ s.limits → t.entries ≡ s.entries ++ more
    → (it : KnownList) → DirectKnows s it → DirectKnows t it
knows_more s t more limits entries (reached h) k = (k.0 ++ more, entries ∙ ap (λ x. x ++ more) k.1 ∙ append_assoc h k.0 more)
knows_more s t more limits entries (refused b why h) k = (
  (k.0.0 ++ more, entries ∙ ap (λ x. x ++ more) k.0.1 ∙ append_assoc h k.0.0 more),
  subst (λ (l : Limits). RefusesBatch l h b why) (sym limits) k.1,
)

-- a batch is refused by the entries, or memory ran out
by_entries : (said : Option Refusal) (why : Refusal) → why ≡ unwrap_or said NoMemory → (why ≡ NoMemory) ⊎ (said ≡ Some why)
by_entries None why is = inl is
by_entries (Some w) why is = inr (ap Some (sym is))

why_known : (s : LimitedHistory) (b : Batch) (why : Refusal) → (why ≡ NoMemory) ⊎ (refusal_by s (next_entry s b) ≡ Some why) → KnowsRefusal DirectKnows b why s
why_known s b (JournalFull batches spans) is =
    ⊎_elim (λ e. absurd cc) (λ by. (s.entries, (([], sym (append-nil s.entries)), (next_entry s b, refl, by)))) is
why_known s b (Stale last) is =
    ⊎_elim (λ e. absurd cc) (λ by. (s.entries, (([], sym (append-nil s.entries)), (next_entry s b, refl, by)))) is
why_known s b (Conflict place) is =
    ⊎_elim (λ e. absurd cc) (λ by. (s.entries, (([], sym (append-nil s.entries)), (next_entry s b, refl, by)))) is
why_known s b NoMemory is = tt
why_known s b Deferred is = tt
why_known s b Busy is = tt
why_known s b Closed is = tt
why_known s b Stranger is = tt
why_known s b NoReply is = tt
why_known s b Gone is = tt
why_known s b (Behind front) is = tt

pub submit_knows : (s : LimitedHistory) (b : Batch) (r : Result ℕ Refusal) (t : LimitedHistory) → DirectSubmits s b r t
    → SubmitKnows (λ (x : LimitedHistory). x.limits) DirectKnows s b r t
submit_knows s b (Ok place) t d =
    let e = next_entry s b in
    let after : LimitedHistory = with_admitted s e (Ok d.0) in
    let more = grows s e d.0 in
    let entries : t.entries ≡ s.entries ++ more.0 = ap (λ (x : LimitedHistory). x.entries) d.3 ∙ more.1 in
    let limits : t.limits ≡ s.limits = ap (λ (x : LimitedHistory). x.limits) d.3 ∙ limits_stay s e d.0 in
    let has : HasAt t.entries place b =
    subst (λ (x : LimitedHistory). HasAt x.entries place b) (sym d.3) (subst (λ p. HasAt after.entries p b) (sym d.2) (has_batch s e b d.0 refl d.1)) in (
      record { same_limits = limits; knowledge = knows_more s t more.0 limits entries },
      record { history = t.entries; legal = d.4; has = has; known = ([], sym (append-nil t.entries)) },
    )
submit_knows s b (Err why) t d =
    let reason = ⊎_elim (λ none. inl none) (λ by. by_entries (refusal_by s (next_entry s b)) why by) d.1 in
    (keeps s t d.0, subst (KnowsRefusal DirectKnows b why) (sym d.0) (why_known s b why reason))

pub read_knows : (s : LimitedHistory) (q : Query) (r : Result Answer Refusal) (t : LimitedHistory) → DirectReads s q r t
    → ReadKnows (λ (x : LimitedHistory). x.limits) DirectKnows s q r t
read_knows s q (Ok a) t d = (
  keeps s t d.0,
  rw (d.0) (record { history = s.entries; legal = d.2; behind = λ h k. k; answer_is = d.1; known = ([], sym (append-nil s.entries)) }),
)
read_knows s q (Err why) t d = keeps s t d.0
