use Rattle.std.proofs.Common.{◌∙◌, refl}
use Rattle.http_session.specs.Sessions.{store_of}
use Rattle.http_session.proofs.SessionPieces.{goes_nowhere, goes_on_then, asks_from}
use Rattle.http_session.proofs.resumable.Session.answer_next.Goals as goal

pub pauses-init : goal.pauses-init
pauses-init g c =
    (goes_nowhere _ _ _ _ _, refl, c.requires.input_works, c.requires.output_works, c.requires.ready, refl)

pub pauses-preserved : goal.pauses-preserved
pauses-preserved g c =
    let so = c.pauses.invariant in
    let goes = rw c.in-Ok-Paused.field-0-is at c.in-Ok-Paused.ensures.goes_on in
    let open_still = rw c.in-Ok-Paused.field-0-is at c.in-Ok-Paused.ensures.open in
    let paused = rw c.in-Ok-Paused.field-0-is at c.in-Ok-Paused.ensures.paused in
    let works = c.in-Ok-Paused.ensures.works in
    (goes_on_then _ _ _ _ _ _ _ _ _ _ _ _ so.0 goes, paused.3 ∙ so.1, works.0, works.1, open_still, paused.1 ∙ so.5)

pub returns-in-Ok-Answered-clause-goes_on : goal.returns-in-Ok-Answered-clause-goes_on
returns-in-Ok-Answered-clause-goes_on g c =
    let goes = rw c.in-Ok-Answered.field-0-is at c.in-Ok-Answered.ensures.goes_on in
    goes_on_then _ _ _ _ _ _ _ _ _ _ _ _ c.pauses.invariant.0 goes

pub returns-in-Ok-Answered-clause-asks : goal.returns-in-Ok-Answered-clause-asks
returns-in-Ok-Answered-clause-asks g c =
    asks_from (store_of g.B.Backend.submits g.B.Backend.reads g.B.Backend.knows g.B.Backend.limits) _ _ _ c.pauses.invariant.1 c.in-Ok-Answered.ensures.asks

pub returns-in-Ok-Ended-clause-goes_on : goal.returns-in-Ok-Ended-clause-goes_on
returns-in-Ok-Ended-clause-goes_on g c =
    let goes = rw c.in-Ok-Ended.field-0-is at c.in-Ok-Ended.ensures.goes_on in
    goes_on_then _ _ _ _ _ _ _ _ _ _ _ _ c.pauses.invariant.0 goes

pub returns-in-Ok-Ended-clause-asks : goal.returns-in-Ok-Ended-clause-asks
returns-in-Ok-Ended-clause-asks g c =
    asks_from (store_of g.B.Backend.submits g.B.Backend.reads g.B.Backend.knows g.B.Backend.limits) _ _ _ c.pauses.invariant.1 c.in-Ok-Ended.ensures.asks

pub returns-in-Err-clause-goes_on : goal.returns-in-Err-clause-goes_on
returns-in-Err-clause-goes_on g c =
    goes_on_then _ _ _ _ _ _ _ _ _ _ _ _ c.pauses.invariant.0 c.in-Err.ensures.goes_on

pub returns-in-Err-clause-asks : goal.returns-in-Err-clause-asks
returns-in-Err-clause-asks g c =
    asks_from (store_of g.B.Backend.submits g.B.Backend.reads g.B.Backend.knows g.B.Backend.limits) _ _ _ c.pauses.invariant.1 c.in-Err.ensures.asks
