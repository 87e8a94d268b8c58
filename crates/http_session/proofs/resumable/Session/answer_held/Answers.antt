use Rattle.std.proofs.Common.{refl, sym, ap, inl}
use Rattle.http_requests.specs.ReceivedBytes.{ReadBuffer}
use Rattle.http_session.proofs.SessionTurns.{two_way, works_said}
use Rattle.http_session.proofs.SessionPieces.{promises_of, receives_no_query, receives_end, parts, parts_not}
use Rattle.http_session.proofs.SessionPieces.{pauses, paused_continues, awaits_more}
use Rattle.http_session.proofs.resumable.Session.answer_held.Goals as goal

pub returns-in-Err-clause-goes_on : goal.returns-in-Err-clause-goes_on
returns-in-Err-clause-goes_on g c =
    let two = two_way g.met.C.Connection.reads_leave g.met.C.Connection.writes_leave in
    let kept = promises_of g.met.B.Backend.submit_knows g.met.B.Backend.read_knows in
    receives_no_query _ kept _ two _ _ _ _ c.requires.input_works c.requires.output_works c.in-Err.ensures.err

pub returns-in-Ok-None-clause-goes_on : goal.returns-in-Ok-None-clause-goes_on
returns-in-Ok-None-clause-goes_on g c =
    let two = two_way g.met.C.Connection.reads_leave g.met.C.Connection.writes_leave in
    let kept = promises_of g.met.B.Backend.submit_knows g.met.B.Backend.read_knows in
    let found = rw c.in-Ok-None.field-0-is at c.in-Ok-None.ensures.incoming in
    pauses _ kept _ two _ _ _ _ _ found

pub returns-in-Ok-None-clause-open : goal.returns-in-Ok-None-clause-open
returns-in-Ok-None-clause-open g c =
    let two = two_way g.met.C.Connection.reads_leave g.met.C.Connection.writes_leave in
    let kept = promises_of g.met.B.Backend.submit_knows g.met.B.Backend.read_knows in
    let found = rw c.in-Ok-None.field-0-is at c.in-Ok-None.ensures.incoming in
    let waits = rw c.in-Ok-None.field-0-is at c.in-Ok-None.ensures.waits in
    paused_continues _ kept _ two c.args.connection.now c.args.backend.now c.args.self.now c.receive.new.received c.receive.new.stage found waits.0
    c.requires.ready

pub returns-in-Ok-None-clause-paused : goal.returns-in-Ok-None-clause-paused
returns-in-Ok-None-clause-paused g c =
    let found = rw c.in-Ok-None.field-0-is at c.in-Ok-None.ensures.incoming in
    let waits = rw c.in-Ok-None.field-0-is at c.in-Ok-None.ensures.waits in
    let part = found c.requires.ready.text c.requires.ready.incoming in (
      awaits_more (record { received = c.receive.new.received; stage = c.receive.new.stage; answered = c.args.self.now.answered }) waits.0 waits.1,
      refl,
      sym (ap (λ (b : ReadBuffer). b.reads_left) part.cut),
      refl,
      refl,
    )

pub returns-in-EndOfInput-clause-goes_on : goal.returns-in-EndOfInput-clause-goes_on
returns-in-EndOfInput-clause-goes_on g c =
    let two = two_way g.met.C.Connection.reads_leave g.met.C.Connection.writes_leave in
    let kept = promises_of g.met.B.Backend.submit_knows g.met.B.Backend.read_knows in
    let found = rw (c.in-Ok-Some.field-0-is, c.in-EndOfInput.is) at c.in-Ok-Some.ensures.incoming in
    receives_end _ kept _ two _ _ _ _ _ found

pub returns-in-Err-write_reply-clause-goes_on : goal.returns-in-Err-write_reply-clause-goes_on
returns-in-Err-write_reply-clause-goes_on g c =
    let two = two_way g.met.C.Connection.reads_leave g.met.C.Connection.writes_leave in
    let kept = promises_of g.met.B.Backend.submit_knows g.met.B.Backend.read_knows in
    let found = rw (c.in-Ok-Some.field-0-is, c.in-NoRequest.is) at c.in-Ok-Some.ensures.incoming in
    rw c.after.ensures (parts_not _ kept _ two _ _ _ _ _ _ _ _ found (rw c.requires.output_works at c.in-Err-write_reply.ensures.wrote)
    c.in-Err-write_reply.ensures.took c.requires.input_works)

pub returns-in-NoRequest-clause-goes_on : goal.returns-in-NoRequest-clause-goes_on
returns-in-NoRequest-clause-goes_on g c =
    let two = two_way g.met.C.Connection.reads_leave g.met.C.Connection.writes_leave in
    let kept = promises_of g.met.B.Backend.submit_knows g.met.B.Backend.read_knows in
    let found = rw (c.in-Ok-Some.field-0-is, c.in-NoRequest.is) at c.in-Ok-Some.ensures.incoming in
    parts _ kept _ two _ _ _ _ _ _ _ found c.in_default.ensures.wrote.0 c.in_default.ensures.took

pub returns-in-NoRequest-clause-works : goal.returns-in-NoRequest-clause-works
returns-in-NoRequest-clause-works g c =
    let two = two_way g.met.C.Connection.reads_leave g.met.C.Connection.writes_leave in
    works_said _ two _ _ _ c.in_default.ensures.took c.in_default.ensures.wrote.1 (c.requires.input_works, c.requires.output_works)

pub returns-in-Err-clause-asks : goal.returns-in-Err-clause-asks
returns-in-Err-clause-asks g c = inl refl

pub returns-in-Ok-None-clause-asks : goal.returns-in-Ok-None-clause-asks
returns-in-Ok-None-clause-asks g c = inl refl

pub returns-in-EndOfInput-clause-asks : goal.returns-in-EndOfInput-clause-asks
returns-in-EndOfInput-clause-asks g c = inl refl

pub returns-in-Err-write_reply-clause-asks : goal.returns-in-Err-write_reply-clause-asks
returns-in-Err-write_reply-clause-asks g c = inl refl

pub returns-in-NoRequest-clause-asks : goal.returns-in-NoRequest-clause-asks
returns-in-NoRequest-clause-asks g c = inl refl
