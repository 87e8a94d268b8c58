-- A session has written the responses to all earlier requests before it reads for the next one.
use Rattle.std.specs.Prelude.{◌≡◌, ℕ, ◌⊎◌, Bool, List, [], ◌∷◌, ◌++◌, length, take, Option}
use Rattle.session_devices.specs.ByteTransfers.{ByteTransfer, KeepsOther}
use Rattle.http_requests.specs.AwaitedReads.{Source, source_of, FailsToRead}
use Rattle.http_session.specs.Sessions.{Exchange, responses, Store, BytesMoment, SessionFailure, EndsAs, FailsAs, last_of, malformed_response, bytes_due}
use Rattle.http_session.specs.ReadTurns.{AwaitsNext}
use Rattle.http_session.specs.declared.whole_session.Ended.{Ended}
use Rattle.http_session.specs.declared.whole_session.SessionError.{SessionError}

-- what is known about a connection in each of its states
pub record ConnectionModel (C : Type 0) : Type 1 where
  pub source : Source C
  pub contents : C → Option (List ℕ)
  pub takes : ByteTransfer C
  pub in_failed : C → Bool
  pub out_failed : C → Bool

abbrev pub model_of : {C : Type 0} → (C → Option (List ℕ)) → ByteTransfer C → (C → Bool) → (C → Option (List ℕ)) → ByteTransfer C → (C → Bool)
    → ConnectionModel C
model_of remaining gives in_failed contents takes out_failed =
    record { source = source_of remaining gives; contents = contents; takes = takes; in_failed = in_failed; out_failed = out_failed }

-- reads don't change what was written, and writes don't change what is still to be read
pub record IsTwoWay {C : Type 0} (model : ConnectionModel C) : Type 0 where
  pub reads_leave : KeepsOther C model.source.gives model.contents model.out_failed
  pub writes_leave : KeepsOther C model.takes model.source.remaining model.in_failed

-- what is done with a connection: a read that returns these bytes, or writes that take them
pub data Act : Type 0 where
  got : List ℕ → Act
  put : List ℕ → Act

-- what the reads returned
abbrev pub reads_of : List Act → List (List ℕ)
reads_of [] = []
reads_of (got p ∷ acts) = p ∷ reads_of acts
reads_of (put w ∷ acts) = reads_of acts

-- what was done by one moment of a session: the connection's state, and the bytes received and written by then
pub record Transcript (C : Type 0) : Type 0 where
  pub state : C
  pub received : List ℕ
  pub written : List ℕ

abbrev pub transcript : {C : Type 0} → C → List ℕ → List ℕ → Transcript C
transcript state received written = record { state = state; received = received; written = written }

-- These acts, in order, lead from one transcript to another. Before each read more was awaited, given the bytes received
-- and written by then.
abbrev pub ActsLead : {C : Type 0} → ConnectionModel C → (List ℕ → List ℕ → Type 0) → Transcript C → Transcript C → List Act → Type 0
ActsLead model Awaits s t [] = s ≡ t
ActsLead {C = C} model Awaits s t (got p ∷ acts) =
    Awaits s.received s.written × (m : C) × model.source.gives s.state p m
    × ActsLead model Awaits (transcript m (s.received ++ p) s.written) t acts
ActsLead {C = C} model Awaits s t (put w ∷ acts) =
    (m : C) × model.takes s.state w m
    × ActsLead model Awaits (transcript m s.received (s.written ++ w)) t acts

-- The bytes received are the first of these requests and a rest, in which the next one is awaited. Exactly the
-- responses to those first ones are written.
pub record AwaitsAnswered (opens : List Exchange) (received written : List ℕ) : Type 0 where
  pub next : AwaitsNext opens received
  pub answered : written ≡ responses next.before

-- What was done with a connection since it was in this state, up to the end of the transcript. Before each read the
-- responses to all requests before the awaited one were written.
pub record AnswersInTurn {C : Type 0} (model : ConnectionModel C) (start : C) (opens : List Exchange) (end : Transcript C) : Type 0 where
  pub acts : List Act
  pub each : ActsLead model (AwaitsAnswered opens) (transcript start [] []) end acts

-- Like AnswersInTurn, for a session that failed. The count is of the reads that returned bytes or found the end. One
-- more, the last one, may have failed.
pub record AnswersInTurnUpTo {C : Type 0} (model : ConnectionModel C) (start : C) (opens : List Exchange) (end : Transcript C) (made : ℕ) : Type 0 where
  pub before : C
  pub answers : AnswersInTurn model start opens (record end { state = before })
  pub count : length (reads_of answers.acts) ≡ made
  pub last : (end.state ≡ before) ⊎ FailsToRead model.source before end.state (model.in_failed end.state)

-- ---- sessions

-- the states of the connection and of the store at one moment of a session
pub record ConnectionMoment (C S : Type 0) : Type 0 where
  pub connection : C
  pub store : S

abbrev pub connection_moment : {C S : Type 0} → C → S → ConnectionMoment C S
connection_moment connection store = record { connection = connection; store = store }

-- what is known of the bytes of a connection at one moment of a session
abbrev pub connection_bytes : {S C : Type 0} → ConnectionModel C → ConnectionMoment C S → BytesMoment S
connection_bytes model at =
    record { input = model.source.remaining at.connection; output = model.contents at.connection; store = at.store }

-- the error of a session, and whether the connection has failed by then
abbrev pub connection_failure : {S C : Type 0} → ConnectionModel C → ConnectionMoment C S → SessionError → SessionFailure
connection_failure model at error =
    record { error = error; input_failed = model.in_failed at.connection; output_failed = model.out_failed at.connection }

-- a session over a connection that ended
abbrev pub EndsOnConnection : {S C : Type 0} → Store S → ConnectionModel C → ConnectionMoment C S → ConnectionMoment C S → Ended → Type 0
EndsOnConnection store model before after ended =
    (ends : EndsAs store (connection_bytes model before) (connection_bytes model after) ended)
    × AnswersInTurn model before.connection ends.opens
    (transcript after.connection ends.taken (responses (ends.opens ++ last_of ends.ending) ++ malformed_response ends.ending))

-- a session over a connection that failed
abbrev pub FailsOnConnection : {S C : Type 0} → Store S → ConnectionModel C → ConnectionMoment C S → ConnectionMoment C S → SessionError → Type 0
FailsOnConnection store model before after error =
    (fails : FailsAs store (connection_bytes model before) (connection_bytes model after) (connection_failure model after error))
    × AnswersInTurnUpTo model before.connection fails.opens
    (transcript after.connection fails.taken (responses fails.opens ++ take error.written (bytes_due fails.next))) fails.made
