use Rattle.std.proofs.Common.{◌≡◌, ◌*◌, ◌-◌, false}
use Rattle.session_devices.specs.declared.limits.TheConstants.{MAX_READS}
use Rattle.http_requests.specs.declared.room.TheConstants.{READ_BYTES}
use Rattle.http_session.specs.ResponseOrder.{model_of, connection_moment}
use Rattle.http_session.specs.Sessions.{store_of}
use Rattle.http_session.specs.ResumableSessions.{session_moment, Underway, CanContinue}
use Rattle.http_session.proofs.whole_session.run_session.Given as goal

abbrev pub invariant-requests : goal.invariant-requests
invariant-requests g l =
    Underway (store_of g.B.Backend.submits g.B.Backend.reads g.B.Backend.knows g.B.Backend.limits)
    (model_of g.C.Input.remaining g.C.Input.gives g.C.Input.has_failed g.C.Output.contents g.C.Output.takes g.C.Output.has_failed)
    (connection_moment l.initial.connection l.initial.backend) (session_moment l.connection l.backend l.session)
    × (g.C.Input.has_failed l.connection ≡ false)
    × (g.C.Output.has_failed l.connection ≡ false)
    × CanContinue (g.C.Input.remaining l.connection) l.session

-- a response more is written by each piece, and there is a limit to them
abbrev pub decreases-requests : goal.decreases-requests
decreases-requests g l = READ_BYTES * MAX_READS - l.session.answered
