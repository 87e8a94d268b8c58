use Rattle.http_session.specs.Sessions.{store_of}
use Rattle.http_session.proofs.SessionTurns.{two_way, fails_to_begin}
use Rattle.http_session.proofs.HistoryPoints.{related_all}
use Rattle.http_session.proofs.whole_session.serve_connection.Goals as goal

pub returns-in_default-clause-error : goal.returns-in_default-clause-error
returns-in_default-clause-error g c =
    let two = two_way g.met.C.Connection.reads_leave g.met.C.Connection.writes_leave in
    let store = store_of g.B.Backend.submits g.B.Backend.reads g.B.Backend.knows g.B.Backend.limits in
    let failed = fails_to_begin store _ two c.args.connection.now c.args.backend.now c.requires.input_works c.requires.output_works in (
      failed,
      related_all store g.met.B.Backend.submit_knows g.met.B.Backend.read_knows c.args.backend.now _ _ failed.0.run,
    )
