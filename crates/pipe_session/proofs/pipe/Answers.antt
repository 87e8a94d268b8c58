use Rattle.pipe_session.proofs.ExactRuns.{exact}
use Rattle.pipe_session.proofs.pipe.Goals as goal

pub returns-in-Ok-clause-ended : goal.returns-in-Ok-clause-ended
returns-in-Ok-clause-ended g c =
    let ended = c.in-Ok.ensures.ended in
    (ended.0, exact _ _ _ ended.0.0.run)

pub returns-in-Err-clause-error : goal.returns-in-Err-clause-error
returns-in-Err-clause-error g c =
    let failed = c.in-Err.ensures.error in
    (failed.0, exact _ _ _ failed.0.0.run)
