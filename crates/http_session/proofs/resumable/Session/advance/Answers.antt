use Rattle.http_session.specs.ResponseOrder.{model_of}
use Rattle.http_session.proofs.SessionTurns.{two_way}
use Rattle.http_session.proofs.SessionPieces.{promises_of, receives_nothing, stops_with, goes_on_then, goes_on_reading, read_continues, works_read}
use Rattle.http_session.proofs.resumable.Session.advance.Goals as goal

pub returns-in-Err-read_more-clause-goes_on : goal.returns-in-Err-read_more-clause-goes_on
returns-in-Err-read_more-clause-goes_on g c =
    let two = two_way g.met.C.Connection.reads_leave g.met.C.Connection.writes_leave in
    let kept = promises_of g.met.B.Backend.submit_knows g.met.B.Backend.read_knows in
    let model = model_of g.C.Input.remaining g.C.Input.gives g.C.Input.has_failed g.C.Output.contents g.C.Output.takes g.C.Output.has_failed in
    let first = rw c.in-Ok-Paused.field-0-is at c.in-Ok-Paused.ensures.goes_on in
    let paused = rw c.in-Ok-Paused.field-0-is at c.in-Ok-Paused.ensures.paused in
    let stops = stops_with model _ _ c.answer_held.new.self _ paused.0 c.in-Err-read_more.ensures.err in
    let works = c.in-Ok-Paused.ensures.works in
    rw c.cause_of.ensures (goes_on_then _ _ _ _ _ _ _ _ _ _ _ _ first
    (receives_nothing _ kept model two c.answer_held.new.connection c.answer_held.new.backend c.answer_held.new.self
    (record { received = c.read_more.new.self; stage = c.answer_held.new.self.stage; answered = c.answer_held.new.self.answered }) (Unit {0})
    c.read_more.new.input
    (g.C.Input.has_failed c.answer_held.new.connection) c.in-Err-read_more.why stops c.in-Err-read_more.ensures.same works.0 works.1))

pub answer_held-requires-2-clause-ready : goal.answer_held-requires-2-clause-ready
answer_held-requires-2-clause-ready g c =
    let two = two_way g.met.C.Connection.reads_leave g.met.C.Connection.writes_leave in
    let kept = promises_of g.met.B.Backend.submit_knows g.met.B.Backend.read_knows in
    let model = model_of g.C.Input.remaining g.C.Input.gives g.C.Input.has_failed g.C.Output.contents g.C.Output.takes g.C.Output.has_failed in
    let paused = rw c.in-Ok-Paused.field-0-is at c.in-Ok-Paused.ensures.paused in
    let open_still = rw c.in-Ok-Paused.field-0-is at c.in-Ok-Paused.ensures.open in
    read_continues _ kept model two _ _ c.answer_held.new.backend c.answer_held.new.self c.read_more.new.self paused.0 c.in_default.ensures.ok
    c.in_default.ensures.read open_still

pub answer_held-requires-2-clause-input_works : goal.answer_held-requires-2-clause-input_works
answer_held-requires-2-clause-input_works g c =
    let two = two_way g.met.C.Connection.reads_leave g.met.C.Connection.writes_leave in
    let kept = promises_of g.met.B.Backend.submit_knows g.met.B.Backend.read_knows in
    let model = model_of g.C.Input.remaining g.C.Input.gives g.C.Input.has_failed g.C.Output.contents g.C.Output.takes g.C.Output.has_failed in
    let paused = rw c.in-Ok-Paused.field-0-is at c.in-Ok-Paused.ensures.paused in
    let open_still = rw c.in-Ok-Paused.field-0-is at c.in-Ok-Paused.ensures.open in
    let works = works_read _ kept model two _ _ c.answer_held.new.backend c.answer_held.new.self c.read_more.new.self paused.0 c.in_default.ensures.ok
    c.in_default.ensures.read
    c.in_default.ensures.same c.in-Ok-Paused.ensures.works open_still.text open_still.incoming in
    works.0

pub answer_held-requires-2-clause-output_works : goal.answer_held-requires-2-clause-output_works
answer_held-requires-2-clause-output_works g c =
    let two = two_way g.met.C.Connection.reads_leave g.met.C.Connection.writes_leave in
    let kept = promises_of g.met.B.Backend.submit_knows g.met.B.Backend.read_knows in
    let model = model_of g.C.Input.remaining g.C.Input.gives g.C.Input.has_failed g.C.Output.contents g.C.Output.takes g.C.Output.has_failed in
    let paused = rw c.in-Ok-Paused.field-0-is at c.in-Ok-Paused.ensures.paused in
    let open_still = rw c.in-Ok-Paused.field-0-is at c.in-Ok-Paused.ensures.open in
    let works = works_read _ kept model two _ _ c.answer_held.new.backend c.answer_held.new.self c.read_more.new.self paused.0 c.in_default.ensures.ok
    c.in_default.ensures.read
    c.in_default.ensures.same c.in-Ok-Paused.ensures.works open_still.text open_still.incoming in
    works.1

pub returns-in-Ok-answer_held-clause-goes_on : goal.returns-in-Ok-answer_held-clause-goes_on
returns-in-Ok-answer_held-clause-goes_on g c =
    let two = two_way g.met.C.Connection.reads_leave g.met.C.Connection.writes_leave in
    let kept = promises_of g.met.B.Backend.submit_knows g.met.B.Backend.read_knows in
    let model = model_of g.C.Input.remaining g.C.Input.gives g.C.Input.has_failed g.C.Output.contents g.C.Output.takes g.C.Output.has_failed in
    let first = rw c.in-Ok-Paused.field-0-is at c.in-Ok-Paused.ensures.goes_on in
    let paused = rw c.in-Ok-Paused.field-0-is at c.in-Ok-Paused.ensures.paused in
    goes_on_then _ _ _ _ _ _ _ _ _ _ _ _ first
    (goes_on_then _ _ _ _ _ _ _ _ _ _ _ _
    (goes_on_reading _ kept model two _ _ _ c.answer_held.new.self _ paused.0 c.in_default.ensures.ok c.in_default.ensures.read)
    c.in-Ok-answer_held.ensures.goes_on)

pub returns-in-Err-answer_held-clause-goes_on : goal.returns-in-Err-answer_held-clause-goes_on
returns-in-Err-answer_held-clause-goes_on g c =
    let two = two_way g.met.C.Connection.reads_leave g.met.C.Connection.writes_leave in
    let kept = promises_of g.met.B.Backend.submit_knows g.met.B.Backend.read_knows in
    let model = model_of g.C.Input.remaining g.C.Input.gives g.C.Input.has_failed g.C.Output.contents g.C.Output.takes g.C.Output.has_failed in
    let first = rw c.in-Ok-Paused.field-0-is at c.in-Ok-Paused.ensures.goes_on in
    let paused = rw c.in-Ok-Paused.field-0-is at c.in-Ok-Paused.ensures.paused in
    goes_on_then _ _ _ _ _ _ _ _ _ _ _ _ first
    (goes_on_then _ _ _ _ _ _ _ _ _ _ _ _
    (goes_on_reading _ kept model two _ _ _ c.answer_held.new.self _ paused.0 c.in_default.ensures.ok c.in_default.ensures.read)
    c.in-Err-answer_held.ensures.goes_on)
