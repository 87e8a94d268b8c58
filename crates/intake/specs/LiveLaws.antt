-- Laws that the impls of this crate name, and their lemmas. A clause can't name its own crate's proofs/, so they are in
-- specs/. A shared store meets the laws of every backend: SubmitKnows and ReadKnows of trace_model.
use Rattle.std.specs.Prelude.{◌≡◌, ℕ, ◌⊎◌, List, Result, Ok, Err, refl}
use Rattle.std.proofs.Common.{sym, subst, ap, inl, inr, ⊎_elim}
use mathlib.Core.List.{IsPrefix}
use Rattle.jaeger_model.specs.declared.batch.Batch.{Batch}
use Rattle.trace_model.specs.declared.entry.Entry.{Entry}
use Rattle.trace_model.specs.declared.entry.Work.TheVariants as brings
use Rattle.trace_model.specs.declared.limits.Limits.{Limits}
use Rattle.trace_model.specs.declared.query.Query.{Query}
use Rattle.trace_model.specs.declared.answer.Answer.{Answer}
use Rattle.trace_model.specs.declared.refusal.Refusal.{Refusal}
use Rattle.trace_model.specs.declared.refusal.Refusal.TheVariants.{JournalFull, Stale, NoMemory, Deferred, Busy, Closed, Stranger, NoReply, Behind}
use Rattle.trace_model.specs.declared.refusal.Refusal.TheVariants.{Conflict, Gone}
use Rattle.trace_model.specs.Histories.{IsLegal}
use Rattle.trace_model.specs.ResentBatches.{AnswersFor}
use Rattle.trace_model.proofs.Prefixes.{prefix_self, prefix_trans}
use Rattle.intake.specs.Seats.{next_job}
use Rattle.intake.specs.Denials.{IsReasonBy}
use Rattle.intake.specs.EntryPlaceLaws.{stands-split}
use Rattle.trace_model.specs.StoreKnowledge.{History, IsPrefixOf, HasAt, KnownList, reached, refused, ForgetsNothing, AnswersAt, KnowsRefusal}
use Rattle.trace_model.specs.StoreKnowledge.{SubmitKnows, ReadKnows}
use Rattle.intake.specs.LiveStores.{LiveValue, LiveKnows, LiveSubmits, LiveReads}

-- what is known of two lists is known of longer ones
knows_more : (limits : Limits) (s t : LiveValue) → IsPrefix s.known t.known → IsPrefix s.refused_by t.refused_by
    → (it : KnownList) → LiveKnows limits s it → LiveKnows limits t it
knows_more limits s t more longer (reached h) k = prefix_trans h s.known t.known k more
knows_more limits s t more longer (refused b why h) k = (prefix_trans h s.refused_by t.refused_by k.0 longer, k.1, k.2)

pub keeps : (limits : Limits) (s t : LiveValue) → IsPrefix s.known t.known → IsPrefix s.refused_by t.refused_by
    → ForgetsNothing (λ _. limits) (LiveKnows limits) s t
keeps limits s t more longer = record { same_limits = refl; knowledge = knows_more limits s t more longer }

same_list : (xs ys : List Entry) → ys ≡ xs → IsPrefix xs ys
same_list xs ys same = subst (λ (z : List Entry). IsPrefix xs z) (sym same) (prefix_self xs)

-- the refusal of a batch, of which no list is known: by the seat, or since the clerk ended
abbrev IsUnjudged : Refusal → Type 0
IsUnjudged why = (why ≡ Closed) ⊎ (why ≡ NoMemory) ⊎ (why ≡ Busy) ⊎ (why ≡ NoReply)

-- the refusal of a batch by the keeper: a legal prefix of this list leaves it out
abbrev IsJudgedBy : Limits → List Entry → Batch → Refusal → Type 0
IsJudgedBy limits longest b why =
    (list : List Entry) × IsPrefix list longest × IsLegal limits list × (e : Entry) × (e.work ≡ brings.Batch b) × IsReasonBy limits list e why

judged : (limits : Limits) (s : LiveValue) (b : Batch) (why : Refusal) (t : LiveValue) → LiveSubmits limits s b (Err why) t
    → IsUnjudged why ⊎ IsJudgedBy limits t.refused_by b why
judged limits s b why t d =
    ⊎_elim
    (λ not_queued. inl (⊎_elim (λ e. inl e) (λ other. ⊎_elim (λ m. inr (inl m.0)) (λ busy. inr (inr (inl busy.0))) other) not_queued.1))
    (λ denied.
    ⊎_elim
    (λ by. inr (by.0, by.3, by.1, next_job s.seat (brings.Batch b), refl, by.4))
    (λ ended. inl (⊎_elim (λ e. inl e) (λ e. inr (inr (inr e))) ended)) denied.1)
    d.1

unjudged_full : (batches spans : ℕ) → IsUnjudged (JournalFull batches spans) → ⊥
unjudged_full batches spans is = ⊎_elim (λ e. cc) (λ others. ⊎_elim (λ e. cc) (λ more. ⊎_elim (λ e. cc) (λ e. cc) more) others) is

unjudged_stale : (last : ℕ) → IsUnjudged (Stale last) → ⊥
unjudged_stale last is = ⊎_elim (λ e. cc) (λ others. ⊎_elim (λ e. cc) (λ more. ⊎_elim (λ e. cc) (λ e. cc) more) others) is

unjudged_conflict : (place : ℕ) → IsUnjudged (Conflict place) → ⊥
unjudged_conflict place is = ⊎_elim (λ e. cc) (λ others. ⊎_elim (λ e. cc) (λ more. ⊎_elim (λ e. cc) (λ e. cc) more) others) is

-- a refusal by JournalFull, Stale or Conflict is by a list
why_known : (limits : Limits) (b : Batch) (why : Refusal) (t : LiveValue) → IsUnjudged why ⊎ IsJudgedBy limits t.refused_by b why
    → KnowsRefusal (LiveKnows limits) b why t
why_known limits b (JournalFull batches spans) t is =
    ⊎_elim (λ none. absurd (unjudged_full batches spans none)) (λ by. (by.0, (by.1, by.2, (by.3, by.4, by.5)))) is
why_known limits b (Stale last) t is =
    ⊎_elim (λ none. absurd (unjudged_stale last none)) (λ by. (by.0, (by.1, by.2, (by.3, by.4, by.5)))) is
why_known limits b (Conflict place) t is =
    ⊎_elim (λ none. absurd (unjudged_conflict place none)) (λ by. (by.0, (by.1, by.2, (by.3, by.4, by.5)))) is
why_known limits b NoMemory t is = tt
why_known limits b Deferred t is = tt
why_known limits b Busy t is = tt
why_known limits b Closed t is = tt
why_known limits b Stranger t is = tt
why_known limits b NoReply t is = tt
why_known limits b Gone t is = tt
why_known limits b (Behind front) t is = tt

-- an entry that answers for another has the same batch
brings_the_same : (d e : Entry) → AnswersFor d e → d.work ≡ e.work
brings_the_same d e a = ⊎_elim (λ same. ap (λ (z : Entry). z.work) same) (λ resent. resent.1) a

pub submit_knows : (limits : Limits) (s : LiveValue) (b : Batch) (r : Result ℕ Refusal) (t : LiveValue) → LiveSubmits limits s b r t
    → SubmitKnows (λ _. limits) (LiveKnows limits) s b r t
submit_knows limits s b (Ok place) t d =
    let list = d.2.0 in
    let job = next_job s.seat (brings.Batch b) in
    let by = d.2.2.0 in
    let split = stands-split list place by d.2.2.1 in
    let has : HasAt list place b =
    record { before = split.0; entry = by; after = split.1; whole = split.2; work_is = brings_the_same by job d.2.2.2; place_is = split.3 } in
    (keeps limits s t d.0 (same_list s.refused_by t.refused_by d.3), record { history = list; legal = d.2.1; has = has; known = d.2.3 })
submit_knows limits s b (Err why) t d =
    (keeps limits s t (same_list s.known t.known d.0) d.2, why_known limits b why t (judged limits s b why t d))

pub read_knows : (limits : Limits) (s : LiveValue) (q : Query) (r : Result Answer Refusal) (t : LiveValue) → LiveReads limits s q r t
    → ReadKnows (λ _. limits) (LiveKnows limits) s q r t
read_knows limits s q (Ok a) t d =
    let begins : (h : History) → IsPrefix h s.known → IsPrefixOf h t.known = λ h k. (let p = prefix_trans h s.known t.known k d.0 in (p.0, sym p.1)) in
    let at : AnswersAt (λ _. limits) (LiveKnows limits) s q a t =
    record { history = t.known; legal = d.2; behind = begins; answer_is = d.3; known = prefix_self t.known } in
    (keeps limits s t d.0 (same_list s.refused_by t.refused_by d.4), at)
read_knows limits s q (Err why) t d = keeps limits s t d.0 (same_list s.refused_by t.refused_by d.5)
