use Rattle.http_session.specs.Sessions.{store_of}
use Rattle.http_session.proofs.SessionTurns.{two_way}
use Rattle.http_session.proofs.SessionPieces.{begins_alone, can_begin}
use Rattle.http_session.proofs.whole_session.run_session.Goals as goal

pub requests-init : goal.requests-init
requests-init g c =
    let two = two_way g.met.C.Connection.reads_leave g.met.C.Connection.writes_leave in
    rw c.new-session.ensures (
      begins_alone (store_of g.B.Backend.submits g.B.Backend.reads g.B.Backend.knows g.B.Backend.limits) _ two _ _,
      c.requires.input_works,
      c.requires.output_works,
      can_begin _,
    )

pub returns-in-Err-clause-error : goal.returns-in-Err-clause-error
returns-in-Err-clause-error g c = c.in-Err.ensures.goes_on.alone _ c.requests.invariant.0

pub returns-in-Ok-Some-clause-ended : goal.returns-in-Ok-Some-clause-ended
returns-in-Ok-Some-clause-ended g c =
    let goes = rw c.in-Ok-Some.field-0-is at c.in-Ok-Some.ensures.goes_on in
    goes.alone _ c.requests.invariant.0
