use Rattle.std.proofs.Common.{inr}
use Rattle.http_session.proofs.SessionTurns.{two_way, works_said}
use Rattle.http_session.proofs.SessionPieces.{promises_of, answers_last, answers_not, answers_open, still_continues}
use Rattle.http_session.proofs.resumable.Session.answer_request.Goals as goal

pub returns-in-Err-clause-goes_on : goal.returns-in-Err-clause-goes_on
returns-in-Err-clause-goes_on g c before taken =
    let two = two_way g.met.C.Connection.reads_leave g.met.C.Connection.writes_leave in
    let kept = promises_of g.met.B.Backend.submit_knows g.met.B.Backend.read_knows in
    rw (c.after.ensures, taken.same)
    (answers_not _ kept _ two _ _ _ _ _ _ _ _ _ _ _ taken.one c.answer-reply.ensures c.closes_after-close.ensures
    _ (rw c.requires.output_works at c.in-Err.ensures.wrote) c.in-Err.ensures.took c.requires.input_works c.in-Err.ensures.spared)

pub returns-then-close-clause-goes_on : goal.returns-then-close-clause-goes_on
returns-then-close-clause-goes_on g c before taken =
    let two = two_way g.met.C.Connection.reads_leave g.met.C.Connection.writes_leave in
    let kept = promises_of g.met.B.Backend.submit_knows g.met.B.Backend.read_knows in
    rw taken.same (answers_last _ kept _ two _ _ _ _ _ _ _ _ _ _ _ taken.one c.answer-reply.ensures c.closes_after-close.ensures
    c.in_default.ensures.wrote.0 c.in_default.ensures.took c.if-close.true)

pub returns-then-close-clause-works : goal.returns-then-close-clause-works
returns-then-close-clause-works g c =
    let two = two_way g.met.C.Connection.reads_leave g.met.C.Connection.writes_leave in
    works_said _ two _ _ _ c.in_default.ensures.took c.in_default.ensures.wrote.1 (c.requires.input_works, c.requires.output_works)

pub returns-clause-goes_on : goal.returns-clause-goes_on
returns-clause-goes_on g c before taken =
    let two = two_way g.met.C.Connection.reads_leave g.met.C.Connection.writes_leave in
    let kept = promises_of g.met.B.Backend.submit_knows g.met.B.Backend.read_knows in
    rw (taken.stage_is, taken.same) (answers_open _ kept _ two _ _ _ _ _ _ _ _ _ _ taken.one c.answer-reply.ensures c.closes_after-close.ensures
    c.in_default.ensures.wrote.0 c.in_default.ensures.took c.if-close.false)

pub returns-clause-works : goal.returns-clause-works
returns-clause-works g c =
    let two = two_way g.met.C.Connection.reads_leave g.met.C.Connection.writes_leave in
    works_said _ two _ _ _ c.in_default.ensures.took c.in_default.ensures.wrote.1 (c.requires.input_works, c.requires.output_works)

pub returns-clause-open : goal.returns-clause-open
returns-clause-open g c before taken can =
    let two = two_way g.met.C.Connection.reads_leave g.met.C.Connection.writes_leave in
    let kept = promises_of g.met.B.Backend.submit_knows g.met.B.Backend.read_knows in
    rw (taken.stage_is, taken.same) (still_continues _ kept _ two _ _ c.args.backend.now c.args.backend.now _ _ _ _ c.answer-reply.result
    c.closes_after-close.result taken.one _ c.in_default.ensures.took can)

pub returns-in-Err-clause-asks : goal.returns-in-Err-clause-asks
returns-in-Err-clause-asks g c = inr (_, _, c.answer-reply.ensures)

pub returns-then-close-clause-asks : goal.returns-then-close-clause-asks
returns-then-close-clause-asks g c = inr (_, _, c.answer-reply.ensures)

pub returns-clause-asks : goal.returns-clause-asks
returns-clause-asks g c = inr (_, _, c.answer-reply.ensures)
