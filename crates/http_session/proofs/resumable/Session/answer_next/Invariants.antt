use Rattle.std.proofs.Common.{◌≡◌, false, None, Ok}
use Rattle.http_session.specs.ResponseOrder.{model_of}
use Rattle.http_session.specs.Sessions.{store_of}
use Rattle.http_session.specs.ResumableSessions.{session_moment, CanContinue, RunsPiece}
use Rattle.http_session.proofs.resumable.Session.answer_next.Given as goal

abbrev pub invariant-pauses : goal.invariant-pauses
invariant-pauses g l =
    RunsPiece (store_of g.B.Backend.submits g.B.Backend.reads g.B.Backend.knows g.B.Backend.limits)
    (model_of g.C.Input.remaining g.C.Input.gives g.C.Input.has_failed g.C.Output.contents g.C.Output.takes g.C.Output.has_failed)
    (session_moment l.initial.connection l.initial.backend l.initial.self) (session_moment l.connection l.backend l.self) (Ok None)
    × (l.backend ≡ l.initial.backend)
    × (g.C.Input.has_failed l.connection ≡ false) × (g.C.Output.has_failed l.connection ≡ false)
    × CanContinue (g.C.Input.remaining l.connection) l.self
    × (l.self.answered ≡ l.initial.self.answered)

abbrev pub decreases-pauses : goal.decreases-pauses
decreases-pauses g l = l.self.received.reads_left
