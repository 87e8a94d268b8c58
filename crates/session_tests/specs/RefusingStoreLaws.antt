-- Laws that an impl of this crate names, and their definitions. A clause can't name its own crate's proofs/, so they are
-- in specs/. A store that knows no list of entries and refuses everything meets the laws of every backend.
use Rattle.std.specs.Prelude.{◌≡◌, ℕ, [], Result, Err}
use Rattle.std.proofs.Common.{refl}
use Rattle.jaeger_model.specs.declared.batch.Batch.{Batch}
use Rattle.trace_model.specs.declared.limits.Limits.{Limits}
use Rattle.trace_model.specs.declared.query.Query.{Query}
use Rattle.trace_model.specs.declared.answer.Answer.{Answer}
use Rattle.trace_model.specs.declared.refusal.Refusal.{Refusal}
use Rattle.trace_model.specs.declared.refusal.Refusal.TheVariants.{JournalFull, Stale, NoMemory, Deferred, Busy, Closed, Stranger, NoReply, Behind}
use Rattle.trace_model.specs.declared.refusal.Refusal.TheVariants.{Conflict, Gone}
use Rattle.trace_model.specs.StoreKnowledge.{KnownList, reached, refused, KnowsRefusal, SubmitKnows, ReadKnows}

-- no list is reached, and every list refuses every batch
abbrev pub KnowsNothing : {S : Type 0} → S → KnownList → Type 0
KnowsNothing s (reached h) = ⊥
KnowsNothing s (refused b why h) = Unit {0}

refused_by_any : {S : Type 0} (t : S) (b : Batch) (why : Refusal) → KnowsRefusal KnowsNothing b why t
refused_by_any t b (JournalFull batches spans) = ([], tt)
refused_by_any t b (Stale last) = ([], tt)
refused_by_any t b (Conflict place) = ([], tt)
refused_by_any t b NoMemory = tt
refused_by_any t b Deferred = tt
refused_by_any t b Busy = tt
refused_by_any t b Closed = tt
refused_by_any t b Stranger = tt
refused_by_any t b NoReply = tt
refused_by_any t b Gone = tt
refused_by_any t b (Behind front) = tt

-- it refuses for this reason, and stays as it is
abbrev pub Refuses : {S A : Type 0} → S → Refusal → Result A Refusal → S → Type 0
Refuses s why r t = (r ≡ Err why) × (t ≡ s)

pub refused_submit : {S : Type 0} (limits : S → Limits) (s t : S) (b : Batch) (r : Result ℕ Refusal) (why : Refusal) → Refuses s why r t
    → SubmitKnows limits KnowsNothing s b r t
refused_submit limits s t b r why e = rw (e.0, e.1) (record { same_limits = refl; knowledge = λ it known. known }, refused_by_any s b why)

pub refused_read : {S : Type 0} (limits : S → Limits) (s t : S) (q : Query) (r : Result Answer Refusal) (why : Refusal) → Refuses s why r t
    → ReadKnows limits KnowsNothing s q r t
refused_read limits s t q r why e = rw (e.0, e.1) (record { same_limits = refl; knowledge = λ it known. known })
