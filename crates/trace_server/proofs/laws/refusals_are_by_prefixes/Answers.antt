use Rattle.http_session.proofs.SessionPieces.{promises_of}
use Rattle.intake.specs.LiveLaws.{keeps, submit_knows, read_knows}
use Rattle.open_connections.specs.OpenConnections.{socket_model}
use Rattle.open_connections.proofs.ConnectionRefusals.{connections_stay_known}
use Rattle.trace_server.specs.WorkerConnections.{live_store}
use Rattle.trace_server.proofs.laws.refusals_are_by_prefixes.Goals as goal

pub returns : goal.returns
returns g c now later it progress came known refused_by =
    let limits = g.N.StoreName.limits in
    connections_stay_known (live_store limits) (promises_of (submit_knows limits) (read_knows limits))
    socket_model now later it progress came (keeps limits now later known refused_by)
