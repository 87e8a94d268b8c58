use Rattle.http_session.proofs.SessionPieces.{promises_of, outlasts_writes}
use Rattle.open_connections.proofs.OpenConnections.{delivered, two_way_box}
use Rattle.open_connections.proofs.open.OpenConnection.take_turn.Goals as goal

pub returns-then-has_waiting-clause-comes : goal.returns-then-has_waiting-clause-comes
returns-then-has_waiting-clause-comes g c =
    let kept = promises_of g.met.B.Backend.submit_knows g.met.B.Backend.read_knows in
    let two = two_way_box g.C.Input.remaining g.C.Input.gives g.C.Input.has_failed g.C.TryConnection.contents g.met.C.TryConnection.reads_leave in
    delivered _ _ _ _ _ _ (outlasts_writes _ kept _ two) _ _ _ c.requires.underway c.deliver.ensures
