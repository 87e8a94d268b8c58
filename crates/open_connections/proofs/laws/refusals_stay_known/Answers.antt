use Rattle.http_session.proofs.SessionPieces.{promises_of}
use Rattle.open_connections.specs.BufferedConnections.{buffered_model}
use Rattle.open_connections.proofs.ConnectionRefusals.{connections_stay_known}
use Rattle.open_connections.proofs.laws.refusals_stay_known.Goals as goal

pub returns : goal.returns
returns g c =
    let model = buffered_model g.C.Input.remaining g.C.Input.gives g.C.Input.has_failed g.C.TryConnection.contents in
    connections_stay_known _ (promises_of g.met.B.Backend.submit_knows g.met.B.Backend.read_knows) model
