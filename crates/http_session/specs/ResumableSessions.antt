-- A session that can pause, and what one piece of it does: the work for at most one read. Other sessions may use the
-- store between two pieces.
use Rattle.std.specs.Prelude.{◌≡◌, ◌⊎◌, ℕ, ◌+◌, ◌*◌, ◌≤◌, Bool, List, [], ◌++◌, length, All, Option, Some, None, Result, Ok, Err}
use Rattle.std.specs.Prelude.{false}
use Rattle.std.specs.Io.KnownBytes.{Consumes, Appends, Keeps as KeepsBytes}
use Rattle.session_devices.specs.declared.limits.TheConstants.{MAX_READS}
use Rattle.http_requests.specs.declared.room.TheConstants.{READ_BYTES}
use Rattle.http_requests.specs.Requests.{AwaitsRequest}
use Rattle.http_requests.specs.ReceivedBytes.{ReadBuffer, KnowsItsEnd, put_back, turns}
use Rattle.jaeger_model.specs.declared.batch.Batch.{Batch}
use Rattle.trace_model.specs.declared.query.Query.{Query}
use Rattle.trace_model.specs.declared.answer.Answer.{Answer}
use Rattle.trace_model.specs.declared.refusal.Refusal.{Refusal}
use Rattle.trace_model.specs.StoreKnowledge.{ForgetsNothing}
use Rattle.http_session.specs.Sessions.{Exchange, StaysOpen, texts, responses, Submits, Reads, Store, Step, Run}
use Rattle.http_session.specs.ResponseOrder.{ConnectionModel, ConnectionMoment, connection_moment, transcript, AnswersInTurn, reads_of}
use Rattle.http_session.specs.HistoryPoints.{known_at, Related, no_points}
use Rattle.http_session.specs.SessionRuns.{EndsOnConnectionInHistory, FailsOnConnectionInHistory}
use Rattle.http_session.specs.IncomingRequests.{before_a_request, HasReceived, HasLookedBy, WaitsAfter, ReceivesOne}
use Rattle.http_session.specs.declared.resumable.Session.{Session}
use Rattle.http_session.specs.declared.resumable.Progress.{Progress}
use Rattle.http_session.specs.declared.resumable.Progress.TheVariants.{Paused, Answered, Ended as EndedBy}
use Rattle.http_session.specs.declared.verdict.Verdict.{Verdict}
use Rattle.http_session.specs.declared.reply.Reply.{Reply}
use Rattle.http_session.specs.declared.whole_session.Ended.{Ended}
use Rattle.http_session.specs.declared.whole_session.SessionError.{SessionError}

-- a session before the first read
abbrev pub no_requests_yet : Session
no_requests_yet = record { received = record { held = []; reads_left = MAX_READS; ended = false }; stage = before_a_request; answered = 0 }

-- The session can continue over an input: what it keeps of a request comes from a part of one; if it has found the end
-- of the input, the input has ended; and the number of responses, with those that may still come, is bounded.
pub record CanContinue (input : Option (List ℕ)) (session : Session) : Type 0 where
  pub text : List ℕ
  pub incoming : HasReceived session.stage text
  pub looked : HasLookedBy session.stage session.received.held
  pub end : KnowsItsEnd session.received.ended input
  pub most : session.answered + length (text ++ session.received.held) + READ_BYTES * session.received.reads_left ≤ READ_BYTES * MAX_READS

-- A session that pauses inside a request or before one: the bytes received hold no complete request, and don't rule one
-- out.
pub record AwaitsMore (session : Session) : Type 0 where
  pub open_still : session.received.ended ≡ false
  pub waits : WaitsAfter session.stage session.received.held
  pub awaits : (text : List ℕ) → HasReceived session.stage text → AwaitsRequest (text ++ session.received.held)

-- the result of a piece: a session that pauses stays open
abbrev pub piece_of : Result Progress SessionError → Result (Option Ended) SessionError
piece_of (Ok Paused) = Ok None
piece_of (Ok Answered) = Ok None
piece_of (Ok (EndedBy ended)) = Ok (Some ended)
piece_of (Err error) = Err error

-- if a request was answered, and the session stays open
abbrev pub IfAnswered : Result Progress SessionError → Type 0 → Type 0
IfAnswered (Ok Paused) P = Unit {0}
IfAnswered (Ok Answered) P = P
IfAnswered (Ok (EndedBy ended)) P = Unit {0}
IfAnswered (Err error) P = Unit {0}

-- if more of a request is awaited
abbrev pub IfPaused : Result Progress SessionError → Type 0 → Type 0
IfPaused (Ok Paused) P = P
IfPaused (Ok Answered) P = Unit {0}
IfPaused (Ok (EndedBy ended)) P = Unit {0}
IfPaused (Err error) P = Unit {0}

-- if the session stays open
abbrev pub IfOpen : Result (Option Ended) SessionError → Type 0 → Type 0
IfOpen (Ok None) P = P
IfOpen (Ok (Some ended)) P = Unit {0}
IfOpen (Err error) P = Unit {0}

-- ---- a store that others use too

-- a batch is submitted, perhaps after others used the store, which has forgotten nothing
abbrev pub later_submits : {S : Type 0} → Store S → Submits S
later_submits {S = S} store s b r t = (m : S) × ForgetsNothing store.limits store.knows s m × store.submits m b r t

-- a query is asked, perhaps after others used the store, which has forgotten nothing
abbrev pub later_reads : {S : Type 0} → Store S → Reads S
later_reads {S = S} store s q r t = (m : S) × ForgetsNothing store.limits store.knows s m × store.reads m q r t

-- a store that others may use before each step of this session
abbrev pub shared : {S : Type 0} → Store S → Store S
shared store = record { submits = later_submits store; reads = later_reads store; knows = store.knows; limits = store.limits }

-- ---- sessions

-- a moment of a session between two requests: its connection and the store, the bytes received and not yet taken, and the
-- number of requests answered
pub record BetweenRequests (C S : Type 0) : Type 0 where
  pub connection : C
  pub store : S
  pub received : ReadBuffer
  pub answered : ℕ

abbrev pub between_requests : {C S : Type 0} → C → S → ReadBuffer → ℕ → BetweenRequests C S
between_requests connection store received answered =
    record { connection = connection; store = store; received = received; answered = answered }

-- The exchanges of a session since it began at the first moment.
pub record SoFar {S C : Type 0} (store : Store S) (model : ConnectionModel C) (start : ConnectionMoment C S) (now : BetweenRequests C S) : Type 0 where
  pub taken : List ℕ
  pub opens : List Exchange
  pub read : Consumes (model.source.remaining start.connection) (model.source.remaining now.connection) taken
  pub answers : AnswersInTurn model start.connection opens (transcript now.connection taken (responses opens))
  pub made : now.received.reads_left + length (reads_of answers.acts) ≡ MAX_READS
  pub split : taken ≡ texts opens ++ now.received.held
  pub each : All StaysOpen opens
  pub run : Run store start.store opens now.store
  pub written : Appends (model.contents start.connection) (model.contents now.connection) (responses opens)
  pub count : now.answered ≡ length opens
  pub least : MAX_READS ≤ length taken + turns now.received
  pub most : now.answered + length now.received.held + READ_BYTES * now.received.reads_left ≤ READ_BYTES * MAX_READS
  pub end : KnowsItsEnd now.received.ended (model.source.remaining now.connection)

-- a session that can pause, with its connection and the store at the same moment
pub record SessionMoment (C S : Type 0) : Type 0 where
  pub connection : C
  pub store : S
  pub session : Session

abbrev pub session_moment : {C S : Type 0} → C → S → Session → SessionMoment C S
session_moment connection store session = record { connection = connection; store = store; session = session }

-- The session began at one moment of the connection and the store, and is open at another: what was read and written
-- since, which requests were answered, which steps the store made, and the text of the next request that was taken so
-- far.
pub record Underway {S C : Type 0} (store : Store S) (model : ConnectionModel C) (start : ConnectionMoment C S) (now : SessionMoment C S) : Type 0 where
  pub text : List ℕ
  pub incoming : HasReceived now.session.stage text
  pub so_far : SoFar store model start
      (between_requests now.connection now.store (put_back text now.session.received) now.session.answered)

-- what became of a session that began at the first moment: it is open, it has ended, or it has failed
abbrev pub ComesTo : {S C : Type 0} → Store S → ConnectionModel C → ConnectionMoment C S → SessionMoment C S → Result (Option Ended) SessionError → Type 0
ComesTo store model start now (Ok None) = Underway store model start now
ComesTo store model start now (Ok (Some ended)) = EndsOnConnectionInHistory store model start (connection_moment now.connection now.store) ended
ComesTo store model start now (Err error) = FailsOnConnectionInHistory store model start (connection_moment now.connection now.store) error

-- A session over a store that others use too: the store still knows everything that it knew after the session's own
-- steps.
abbrev pub UnderwayAmong : {S C : Type 0} → Store S → ConnectionModel C → ConnectionMoment C S → SessionMoment C S → Type 0
UnderwayAmong {S = S} store model start now =
    (m : S) × Underway (shared store) model start (record now { store = m }) × ForgetsNothing store.limits store.knows m now.store

-- the answers to such a session belong to one growing history
abbrev pub AnswersSoFar : {S C : Type 0} → Store S → ConnectionModel C → Type 0
AnswersSoFar {S = S} {C = C} store model =
    (start : ConnectionMoment C S) (now : SessionMoment C S) (under : UnderwayAmong store model start now)
    → Related (known_at store start.store) no_points under.1.so_far.opens

-- ---- what others do in a pause

-- someone submits a batch
abbrev pub SubmitsSome : {S : Type 0} → Store S → S → S → Type 0
SubmitsSome store s t = (b : Batch) × (r : Result ℕ Refusal) × store.submits s b r t

-- someone queries the store
abbrev pub ReadsSome : {S : Type 0} → Store S → S → S → Type 0
ReadsSome store s t = (q : Query) × (r : Result Answer Refusal) × store.reads s q r t

-- the store was asked once, or not at all
abbrev pub AsksOnce : {S : Type 0} → Store S → S → S → Type 0
AsksOnce store s t = (t ≡ s) ⊎ ((v : Verdict) × (reply : Reply) × Step store s v reply t)

-- a session stays underway when others do this
abbrev pub StaysUnderway : {S C : Type 0} → Store S → ConnectionModel C → (S → S → Type 0) → Type 0
StaysUnderway {S = S} {C = C} store model Does =
    (start : ConnectionMoment C S) (now : SessionMoment C S) (later : S) → UnderwayAmong store model start now → Does now.store later
    → UnderwayAmong store model start (record now { store = later })

-- A session stays underway when its connection takes no bytes and what was written doesn't change, such as when a
-- connection writes the waiting part of a response.
abbrev pub OutlastsWrites : {S C : Type 0} → Store S → ConnectionModel C → Type 0
OutlastsWrites {S = S} {C = C} store model =
    (start : ConnectionMoment C S) (now : SessionMoment C S) (later : C) → UnderwayAmong store model start now → model.takes now.connection [] later
    → KeepsBytes (model.contents now.connection) (model.contents later)
    → UnderwayAmong store model start (record now { connection = later })

-- ---- one piece

-- what became of a session over such a store
abbrev pub ComesToAmong : {S C : Type 0} → Store S → ConnectionModel C → ConnectionMoment C S → SessionMoment C S → Result (Option Ended) SessionError
    → Type 0
ComesToAmong {S = S} store model start now result =
    (m : S) × ComesTo (shared store) model start (record now { store = m }) result × ForgetsNothing store.limits store.knows m now.store

-- a request was taken from the bytes of one session, which left the other
pub record TakesRequest (old new : Session) (v : Verdict) (closes : Bool) : Type 0 where
  pub one : (text : List ℕ) → HasReceived old.stage text → ReceivesOne (put_back text old.received) new.received v closes
  pub stage_is : new.stage ≡ before_a_request
  pub same : new.answered ≡ old.answered

-- A piece of a session ran from one moment to another, with this result: from wherever the session began, this is what
-- became of it. It holds for a session that has the store to itself, and for one among others.
pub record RunsPiece {S C : Type 0} (store : Store S) (model : ConnectionModel C) (old new : SessionMoment C S)
    (result : Result (Option Ended) SessionError) : Type 0 where
  pub alone : (start : ConnectionMoment C S) → Underway store model start old → ComesTo store model start new result
  pub among : (start : ConnectionMoment C S) → UnderwayAmong store model start old → ComesToAmong store model start new result
