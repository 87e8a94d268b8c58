-- By which lists the batches of a session were refused, and that the store still knows it later.
use Rattle.std.specs.Prelude.{List, ◌++◌, All, Option, Some, None, Result, Ok, Err}
use Rattle.trace_model.specs.StoreKnowledge.{KnownList, KnowsRefusal}
use Rattle.http_session.specs.Sessions.{Exchange, Store, last_of, exchange_due}
use Rattle.http_session.specs.ResponseOrder.{ConnectionModel, ConnectionMoment}
use Rattle.http_session.specs.ResumableSessions.{SessionMoment, ComesTo, ComesToAmong, shared}
use Rattle.http_session.specs.declared.whole_session.Ended.{Ended}
use Rattle.http_session.specs.declared.whole_session.SessionError.{SessionError}
use Rattle.http_session.specs.declared.verdict.Verdict.{Verdict}
use Rattle.http_session.specs.declared.verdict.Verdict.TheVariants.{Submit}
use Rattle.http_session.specs.declared.reply.Reply.{Reply}
use Rattle.http_session.specs.declared.reply.Reply.TheVariants.{Refused}

-- if a batch was refused by JournalFull, Stale or Conflict, the store knows by which list
abbrev pub RefusalIsKnown : {S : Type 0} → (S → KnownList → Type 0) → S → Verdict → Reply → Type 0
RefusalIsKnown knows t (Submit b) (Refused why) = KnowsRefusal knows b why t
RefusalIsKnown knows t _ _ = Unit {0}

-- of each exchange
abbrev pub RefusalsAreKnown : {S : Type 0} → (S → KnownList → Type 0) → S → List Exchange → Type 0
RefusalsAreKnown knows t xs = All (λ (x : Exchange). RefusalIsKnown knows t x.verdict x.reply) xs

-- the exchanges of a session so far, or all if it has ended or failed
abbrev pub session_exchanges : {S C : Type 0} (store : Store S) (model : ConnectionModel C) (start : ConnectionMoment C S) (now : SessionMoment C S)
    (result : Result (Option Ended) SessionError) → ComesTo store model start now result → List Exchange
session_exchanges store model start now (Ok None) it = it.so_far.opens
session_exchanges store model start now (Ok (Some ended)) it = it.0.0.opens ++ last_of it.0.0.ending
session_exchanges store model start now (Err error) it = it.0.0.opens ++ exchange_due it.0.0.next

-- the store knows the refusals of a session that it served alone
abbrev pub RefusalsStayKnown : {S C : Type 0} → Store S → ConnectionModel C → Type 0
RefusalsStayKnown {S = S} {C = C} store model =
    (start : ConnectionMoment C S) (now : SessionMoment C S) (result : Result (Option Ended) SessionError) (it : ComesTo store model start now result)
    → RefusalsAreKnown store.knows now.store (session_exchanges store model start now result it)

-- the store knows the refusals of a session among others, also after what these do later
abbrev pub RefusalsStayKnownAmong : {S C : Type 0} → Store S → ConnectionModel C → Type 0
RefusalsStayKnownAmong {S = S} {C = C} store model =
    (start : ConnectionMoment C S) (now : SessionMoment C S) (result : Result (Option Ended) SessionError)
    (it : ComesToAmong store model start now result)
    → RefusalsAreKnown store.knows now.store (session_exchanges (shared store) model start (record now { store = it.0 }) result it.1)
