use Rattle.std.proofs.Common.{◌≡◌, ◌++◌, false, Some}
use Rattle.http_session.specs.Sessions.{store_of}
use Rattle.http_session.specs.ResponseOrder.{ConnectionModel}
use Rattle.open_connections.specs.BufferedConnections.{buffered_model}
use Rattle.open_connections.specs.OpenConnections.{AllOpen}
use Rattle.open_connections.specs.declared.buffered.BufferedConnection.{BufferedConnection}
use Rattle.session_tests.specs.declared.tests.slow_readers.SlowClient.{SlowClient}
use Rattle.session_tests.proofs.tests.slow_readers.serve_alone.Given as goal

abbrev pub slow_model : ConnectionModel (BufferedConnection SlowClient)
slow_model =
    buffered_model (λ s. Some s.bytes.now) (λ s given t. (s.bytes.now ≡ given ++ t.bytes.now) × (t.taken.items ≡ s.taken.items)) (λ s. false)
    (λ s. Some s.taken.items)

abbrev pub invariant-loop-round : goal.invariant-loop-round
invariant-loop-round g l =
    AllOpen (store_of g.B.Backend.submits g.B.Backend.reads g.B.Backend.knows g.B.Backend.limits) slow_model l.store l.connections
