-- By which lists the batches of a connection were refused, and that the store still knows it later.
use Rattle.std.specs.Prelude.{List, ◌++◌}
use Rattle.trace_model.specs.StoreKnowledge.{ForgetsNothing}
use Rattle.http_session.specs.Sessions.{Exchange, Store, last_of, exchange_due}
use Rattle.http_session.specs.ResponseOrder.{ConnectionModel}
use Rattle.http_session.specs.KnownRefusals.{RefusalsAreKnown}
use Rattle.open_connections.specs.OpenConnections.{HasCome}
use Rattle.open_connections.specs.declared.open.OpenConnection.{OpenConnection}
use Rattle.open_connections.specs.declared.buffered.BufferedConnection.{BufferedConnection}
use Rattle.open_connections.specs.declared.open.ConnectionProgress.{ConnectionProgress}
use Rattle.open_connections.specs.declared.open.ConnectionProgress.TheVariants.{StaysOpen, Ended}
use Rattle.open_connections.specs.declared.open.ConnectionEnd.TheVariants.{ClosedByClient, ClosedByResponse, Failed, Undelivered}

-- the exchanges of a connection since it began
abbrev pub exchanges_of : {S C : Type 0} (store : Store S) (model : ConnectionModel (BufferedConnection C)) (now : S) (it : OpenConnection C)
    (progress : ConnectionProgress) → HasCome store model now it progress → List Exchange
exchanges_of store model now it (StaysOpen progress) came = came.underway.1.so_far.opens
exchanges_of store model now it (Ended ClosedByClient) came = came.served.0.0.opens ++ last_of came.served.0.0.ending
exchanges_of store model now it (Ended ClosedByResponse) came = came.served.0.0.opens ++ last_of came.served.0.0.ending
exchanges_of store model now it (Ended Failed) came = came.served.0.0.opens ++ exchange_due came.served.0.0.next
exchanges_of store model now it (Ended Undelivered) came = came.underway.1.so_far.opens

-- the store knows the refusals of a connection in one more turn, and later
abbrev pub ConnectionRefusalsStayKnown : {S C : Type 0} → Store S → ConnectionModel (BufferedConnection C) → Type 0
ConnectionRefusalsStayKnown {S = S} {C = C} store model =
    (now later : S) (it : OpenConnection C) (progress : ConnectionProgress) (came : HasCome store model now it progress)
    → ForgetsNothing store.limits store.knows now later
    → RefusalsAreKnown store.knows later (exchanges_of store model now it progress came)
