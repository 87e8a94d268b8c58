-- What a store knows of its refusals stays known.
use Rattle.std.proofs.Common.{List, [], ◌∷◌, Some, None, Ok, Err, sym, subst}
use Rattle.std.proofs.lemmas.List.Elements.{All-weaker, All-cons, All-nil}
use Rattle.jaeger_model.specs.declared.batch.Batch.{Batch}
use Rattle.trace_model.specs.declared.refusal.Refusal.{Refusal}
use Rattle.trace_model.specs.declared.refusal.Refusal.TheVariants.{JournalFull, Stale, NoMemory, Deferred, Busy, Closed, Stranger, NoReply, Behind}
use Rattle.trace_model.specs.declared.refusal.Refusal.TheVariants.{Conflict, Gone}
use Rattle.trace_model.specs.StoreKnowledge.{refused, ForgetsNothing, KnowsRefusal}
use Rattle.http_session.specs.Sessions.{Exchange, Store, Step, Run}
use Rattle.http_session.specs.ResponseOrder.{ConnectionModel}
use Rattle.http_session.specs.ResumableSessions.{shared}
use Rattle.http_session.specs.KnownRefusals.{RefusalIsKnown, RefusalsAreKnown, RefusalsStayKnown, RefusalsStayKnownAmong}
use Rattle.http_session.specs.declared.verdict.Verdict.{Verdict}
use Rattle.http_session.specs.declared.verdict.Verdict.TheVariants.{Submit}
use Rattle.http_session.specs.declared.reply.Reply.{Reply}
use Rattle.http_session.specs.declared.reply.Reply.TheVariants.{Refused}
use Rattle.http_session.proofs.SessionPieces.{Promises, shared_promises, keeps_all, keeps_on, step_keeps}

module _ {S : Type 0} (store : Store S) where
  still_known : (s t : S) (b : Batch) (why : Refusal) → ForgetsNothing store.limits store.knows s t → KnowsRefusal store.knows b why s
      → KnowsRefusal store.knows b why t
  still_known s t b (JournalFull batches spans) keeps known = (known.0, keeps.knowledge (refused b (JournalFull batches spans) known.0) known.1)
  still_known s t b (Stale last) keeps known = (known.0, keeps.knowledge (refused b (Stale last) known.0) known.1)
  still_known s t b (Conflict place) keeps known = (known.0, keeps.knowledge (refused b (Conflict place) known.0) known.1)
  still_known s t b NoMemory keeps known = tt
  still_known s t b Deferred keeps known = tt
  still_known s t b Busy keeps known = tt
  still_known s t b Closed keeps known = tt
  still_known s t b Stranger keeps known = tt
  still_known s t b NoReply keeps known = tt
  still_known s t b Gone keeps known = tt
  still_known s t b (Behind front) keeps known = tt

  kept_of_one : (s t : S) (v : Verdict) (reply : Reply) → ForgetsNothing store.limits store.knows s t → RefusalIsKnown store.knows s v reply
      → RefusalIsKnown store.knows t v reply
  kept_of_one s t (Submit b) (Refused why) keeps known = still_known s t b why keeps known
  kept_of_one s t _ _ keeps known = tt

  kept_of_all : (s t : S) (xs : List Exchange) → ForgetsNothing store.limits store.knows s t → RefusalsAreKnown store.knows s xs
      → RefusalsAreKnown store.knows t xs
  kept_of_all s t xs keeps known =
      All-weaker (λ (x : Exchange). RefusalIsKnown store.knows s x.verdict x.reply)
      (λ (x : Exchange). RefusalIsKnown store.knows t x.verdict x.reply)
      (λ x one. kept_of_one s t x.verdict x.reply keeps one) xs known

  module _ (promises : Promises store) where
    known_of_step : (s t : S) (v : Verdict) (reply : Reply) → Step store s v reply t → RefusalIsKnown store.knows t v reply
    known_of_step s t (Submit b) (Refused why) step = (promises.submit_knows s b (Err why) t step).1
    known_of_step s t _ _ step = tt

    run_keeps : (s t : S) (xs : List Exchange) → Run store s xs t → ForgetsNothing store.limits store.knows s t
    run_keeps s t [] run = subst (λ (x : S). ForgetsNothing store.limits store.knows s x) (sym run) (keeps_all store s)
    run_keeps s t (x ∷ xs) run =
        keeps_on store s run.0 t (step_keeps store promises s run.0 x.verdict x.reply run.1) (run_keeps run.0 t xs run.2)

    pub known_of_run : (s t : S) (xs : List Exchange) → Run store s xs t → RefusalsAreKnown store.knows t xs
    known_of_run s t [] run = All-nil (λ (x : Exchange). RefusalIsKnown store.knows t x.verdict x.reply)
    known_of_run s t (x ∷ xs) run =
        All-cons (λ (y : Exchange). RefusalIsKnown store.knows t y.verdict y.reply) x xs
        (kept_of_one run.0 t x.verdict x.reply (run_keeps run.0 t xs run.2) (known_of_step s run.0 x.verdict x.reply run.1))
        (known_of_run run.0 t xs run.2)

    pub stays_known : {C : Type 0} (model : ConnectionModel C) → RefusalsStayKnown store model
    stays_known model start now (Ok None) it = known_of_run start.store now.store _ it.so_far.run
    stays_known model start now (Ok (Some ended)) it = known_of_run start.store now.store _ it.0.0.run
    stays_known model start now (Err error) it = known_of_run start.store now.store _ it.0.0.run

module _ {S C : Type 0} (store : Store S) (promises : Promises store) (model : ConnectionModel C) where
  pub stays_known_among : RefusalsStayKnownAmong store model
  stays_known_among start now result it =
      kept_of_all store it.0 now.store _ it.2
      (stays_known (shared store) (shared_promises store promises) model start (record now { store = it.0 }) result it.1)
