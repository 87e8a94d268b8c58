-- Open connections, each with a session that is underway over a store that the others use too.
use Rattle.std.specs.Prelude.{◌≡◌, ℕ, List, [], Bool, Option, Some, None, true, false}
use Rattle.std.specs.Io.KnownBytes.{Keeps as KeepsBytes}
use Rattle.std.specs.Option.{option_map}
use Rattle.slab.specs.Slab.{Slab, get}
use Rattle.trace_model.specs.StoreKnowledge.{ForgetsNothing}
use Rattle.http_session.specs.ResponseOrder.{ConnectionModel, connection_moment}
use Rattle.http_session.specs.Sessions.{Store}
use Rattle.http_session.specs.SessionRuns.{EndsOnConnectionInHistory, FailsOnConnectionInHistory}
use Rattle.http_session.specs.ResumableSessions.{CanContinue, session_moment, UnderwayAmong, shared}
use Rattle.http_session.specs.declared.whole_session.Ended.{Ended as EndedSession}
use Rattle.http_session.specs.declared.whole_session.SessionError.{SessionError}
use Rattle.open_connections.specs.BufferedConnections.{buffered_model, buffered_takes, handed_over}
use Rattle.open_connections.specs.declared.open.OpenConnection.{OpenConnection}
use Rattle.open_connections.specs.declared.buffered.BufferedConnection.{BufferedConnection}
use Rattle.open_connections.specs.declared.open.ConnectionEnd.{ConnectionEnd}
use Rattle.open_connections.specs.declared.open.ConnectionEnd.TheVariants.{ClosedByClient, ClosedByResponse, Failed, Undelivered}
use Rattle.open_connections.specs.declared.open.ConnectionProgress.{ConnectionProgress}
use Rattle.open_connections.specs.declared.open.ConnectionProgress.TheVariants.{StaysOpen, Ended}
use Rattle.open_connections.specs.declared.set.ConnectionTurn.{ConnectionTurn}
use Rattle.open_connections.specs.declared.set.ConnectionTurn.TheVariants.{Absent, Open, Removed}
use Rattle.open_connections.specs.declared.socket.Socket.{Socket}

-- The connection can continue: its session is underway from the start of the connection and the state of the store
-- then, and the connection hasn't failed.
pub record IsOpen {S C : Type 0} (store : Store S) (model : ConnectionModel (BufferedConnection C)) (now : S) (it : OpenConnection C) : Type 0 where
  pub then : S
  pub underway : UnderwayAmong store model (connection_moment it.began.value then) (session_moment it.connection now it.session)
  pub ready : CanContinue (model.source.remaining it.connection) it.session
  pub input_works : model.in_failed it.connection ≡ false
  pub output_works : model.out_failed it.connection ≡ false

-- its session has ended, as one that began with the connection
pub record SessionEnded {S C : Type 0} (store : Store S) (model : ConnectionModel (BufferedConnection C)) (now : S) (it : OpenConnection C) : Type 0 where
  pub then : S
  pub last : S
  pub ended : EndedSession
  pub served : EndsOnConnectionInHistory (shared store) model (connection_moment it.began.value then) (connection_moment it.connection last) ended
  pub keeps : ForgetsNothing store.limits store.knows last now

-- its session has failed, as one that began with the connection
pub record HasFailed {S C : Type 0} (store : Store S) (model : ConnectionModel (BufferedConnection C)) (now : S) (it : OpenConnection C) : Type 0 where
  pub then : S
  pub last : S
  pub error : SessionError
  pub served : FailsOnConnectionInHistory (shared store) model (connection_moment it.began.value then) (connection_moment it.connection last) error
  pub keeps : ForgetsNothing store.limits store.knows last now

-- its session is underway, and the connection failed before the client took the last response
pub record HasBroken {S C : Type 0} (store : Store S) (model : ConnectionModel (BufferedConnection C)) (now : S) (it : OpenConnection C) : Type 0 where
  pub then : S
  pub underway : UnderwayAmong store model (connection_moment it.began.value then) (session_moment it.connection now it.session)
  pub output_failed : model.out_failed it.connection ≡ true

-- what became of a connection that doesn't stay open
abbrev pub HasEnded : {S C : Type 0} → Store S → ConnectionModel (BufferedConnection C) → S → OpenConnection C → ConnectionEnd → Type 0
HasEnded store model now it ClosedByClient = SessionEnded store model now it
HasEnded store model now it ClosedByResponse = SessionEnded store model now it
HasEnded store model now it Failed = HasFailed store model now it
HasEnded store model now it Undelivered = HasBroken store model now it

-- what became of a connection in one more turn
abbrev pub HasCome : {S C : Type 0} → Store S → ConnectionModel (BufferedConnection C) → S → OpenConnection C → ConnectionProgress → Type 0
HasCome store model now it (StaysOpen progress) = IsOpen store model now it
HasCome store model now it (Ended how) = HasEnded store model now it how

-- each connection of the set
abbrev pub AllOpen : {S C : Type 0} → Store S → ConnectionModel (BufferedConnection C) → S → Slab (OpenConnection C) → Type 0
AllOpen {C = C} store model now set = (key : ℕ) (it : OpenConnection C) → get set key ≡ Some it → IsOpen store model now it

-- The connection was removed from the set with what waits: the session that began with the connection under the key
-- ended or failed, or the client didn't take its last response.
pub record WasRemoved {S C : Type 0} (store : Store S) (model : ConnectionModel (BufferedConnection C)) (now : S) (before : Option (OpenConnection C))
    (how : ConnectionEnd) (box : BufferedConnection C) : Type 0 where
  pub it : OpenConnection C
  pub box_is : it.connection ≡ box
  pub began : option_map (λ (o : OpenConnection C). o.began.value) before ≡ Some it.began.value
  pub comes : HasEnded store model now it how

-- the connection under the key is still there
pub record StayedOpen {C : Type 0} (before after : Option (OpenConnection C)) : Type 0 where
  pub it : OpenConnection C
  pub still : after ≡ Some it
  pub began : option_map (λ (o : OpenConnection C). o.began.value) before ≡ Some it.began.value

-- what became of the connection under a key in a turn, from what was under the key before and is there after it
abbrev pub TurnsTo : {S C : Type 0} → Store S → ConnectionModel (BufferedConnection C) → S → Option (OpenConnection C) → Option (OpenConnection C)
    → ConnectionTurn C → Type 0
TurnsTo store model now before after Absent = before ≡ None
TurnsTo store model now before after (Open progress) = StayedOpen before after
TurnsTo store model now before after (Removed how box) = WasRemoved store model now before how box

-- the set is empty
abbrev pub IsEmpty : {C : Type 0} → Slab (OpenConnection C) → Type 0
IsEmpty set = (key : ℕ) → get set key ≡ None

-- each connection of the set was there before, under the same key
abbrev pub IsRest : {C : Type 0} → Slab (OpenConnection C) → Slab (OpenConnection C) → Type 0
IsRest {C = C} old new = (key : ℕ) (it : OpenConnection C) → get new key ≡ Some it → get old key ≡ Some it

-- The connection stays open as it was, or has failed: by whether it had failed before and after the bytes were written.
abbrev pub DeliversTo : Bool → Bool → ConnectionProgress → Type 0
DeliversTo before after (StaysOpen progress) = after ≡ before
DeliversTo before after (Ended Undelivered) = after ≡ true
DeliversTo before after (Ended ClosedByClient) = ⊥
DeliversTo before after (Ended ClosedByResponse) = ⊥
DeliversTo before after (Ended Failed) = ⊥

-- Writing the waiting bytes changes neither the session nor what was handed over. The connection stays open or has
-- failed.
pub record Delivers {C : Type 0} (remaining : C → Option (List ℕ)) (failed : C → Bool) (contents : C → Option (List ℕ)) (old new : OpenConnection C)
    (progress : ConnectionProgress) : Type 0 where
  pub session : new.session ≡ old.session
  pub began : new.began.value ≡ old.began.value
  pub nothing_new : buffered_takes remaining failed contents old.connection [] new.connection
  pub kept : KeepsBytes (handed_over contents old.connection) (handed_over contents new.connection)
  pub comes_to : DeliversTo old.connection.failed new.connection.failed progress

-- ---- sockets, about whose bytes nothing is known

abbrev pub socket_model : ConnectionModel (BufferedConnection Socket)
socket_model = buffered_model (λ s. None) (λ s given t. Unit {0}) (λ s. s.failed) (λ s. None)
