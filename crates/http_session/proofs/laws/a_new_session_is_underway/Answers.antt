use Rattle.http_session.specs.Sessions.{store_of}
use Rattle.http_session.proofs.SessionTurns.{two_way}
use Rattle.http_session.proofs.SessionPieces.{can_begin, begins_alone, begins_among}
use Rattle.http_session.proofs.laws.a_new_session_is_underway.Goals as goal

pub returns-clause-ready : goal.returns-clause-ready
returns-clause-ready g c = can_begin _

pub returns-clause-alone : goal.returns-clause-alone
returns-clause-alone g c =
    let two = two_way g.met.C.Connection.reads_leave g.met.C.Connection.writes_leave in
    begins_alone (store_of g.B.Backend.submits g.B.Backend.reads g.B.Backend.knows g.B.Backend.limits) _ two _ _

pub returns-clause-among : goal.returns-clause-among
returns-clause-among g c =
    let two = two_way g.met.C.Connection.reads_leave g.met.C.Connection.writes_leave in
    begins_among (store_of g.B.Backend.submits g.B.Backend.reads g.B.Backend.knows g.B.Backend.limits) _ two _ _
