use Rattle.http_session.specs.ResponseOrder.{model_of}
use Rattle.http_session.proofs.SessionTurns.{two_way}
use Rattle.http_session.proofs.SessionPieces.{promises_of, outlasts_writes}
use Rattle.http_session.proofs.laws.late_writes_keep_a_session_underway.Goals as goal

pub returns : goal.returns
returns g c =
    let model = model_of g.C.Input.remaining g.C.Input.gives g.C.Input.has_failed g.C.Output.contents g.C.Output.takes g.C.Output.has_failed in
    outlasts_writes _ (promises_of g.met.B.Backend.submit_knows g.met.B.Backend.read_knows) model
    (two_way g.met.C.Connection.reads_leave g.met.C.Connection.writes_leave)
