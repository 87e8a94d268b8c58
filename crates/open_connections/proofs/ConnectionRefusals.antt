-- What a store knows of the refusals of a connection stays known.
use Rattle.std.proofs.Common.{Some, None, Ok, Err}
use Rattle.trace_model.specs.StoreKnowledge.{ForgetsNothing}
use Rattle.http_session.specs.Sessions.{Store}
use Rattle.http_session.specs.ResponseOrder.{ConnectionModel, connection_moment}
use Rattle.http_session.specs.ResumableSessions.{session_moment, UnderwayAmong}
use Rattle.http_session.specs.KnownRefusals.{RefusalsAreKnown}
use Rattle.http_session.proofs.SessionPieces.{Promises, keeps_on}
use Rattle.http_session.proofs.KnownRefusals.{stays_known_among}
use Rattle.open_connections.specs.OpenConnections.{SessionEnded, HasFailed}
use Rattle.open_connections.specs.ConnectionRefusals.{ConnectionRefusalsStayKnown, exchanges_of}
use Rattle.open_connections.specs.declared.open.OpenConnection.{OpenConnection}
use Rattle.open_connections.specs.declared.buffered.BufferedConnection.{BufferedConnection}
use Rattle.open_connections.specs.declared.open.ConnectionProgress.TheVariants.{StaysOpen, Ended}
use Rattle.open_connections.specs.declared.open.ConnectionEnd.TheVariants.{ClosedByClient, ClosedByResponse, Failed, Undelivered}

module _ {S C : Type 0} (store : Store S) (promises : Promises store) (model : ConnectionModel (BufferedConnection C)) (now later : S) (it : OpenConnection C)
    (keeps : ForgetsNothing store.limits store.knows now later) where
  of_underway : (then : S) (under : UnderwayAmong store model (connection_moment it.began.value then) (session_moment it.connection now it.session))
      → RefusalsAreKnown store.knows later under.1.so_far.opens
  of_underway then under =
      stays_known_among store promises model (connection_moment it.began.value then) (session_moment it.connection later it.session) (Ok None)
      (under.0, under.1, keeps_on store under.0 now later under.2 keeps)

  of_ended : (has : SessionEnded store model now it) → RefusalsAreKnown store.knows later (exchanges_of store model now it (Ended ClosedByClient) has)
  of_ended has =
      stays_known_among store promises model (connection_moment it.began.value has.then) (session_moment it.connection later it.session)
      (Ok (Some has.ended))
      (has.last, has.served, keeps_on store has.last now later has.keeps keeps)

  of_failed : (has : HasFailed store model now it) → RefusalsAreKnown store.knows later (exchanges_of store model now it (Ended Failed) has)
  of_failed has =
      stays_known_among store promises model (connection_moment it.began.value has.then) (session_moment it.connection later it.session)
      (Err has.error)
      (has.last, has.served, keeps_on store has.last now later has.keeps keeps)

module _ {S C : Type 0} (store : Store S) (promises : Promises store) (model : ConnectionModel (BufferedConnection C)) where
  pub connections_stay_known : ConnectionRefusalsStayKnown store model
  connections_stay_known now later it (StaysOpen progress) came keeps = of_underway store promises model now later it keeps came.then came.underway
  connections_stay_known now later it (Ended ClosedByClient) came keeps = of_ended store promises model now later it keeps came
  connections_stay_known now later it (Ended ClosedByResponse) came keeps = of_ended store promises model now later it keeps came
  connections_stay_known now later it (Ended Failed) came keeps = of_failed store promises model now later it keeps came
  connections_stay_known now later it (Ended Undelivered) came keeps = of_underway store promises model now later it keeps came.then came.underway
