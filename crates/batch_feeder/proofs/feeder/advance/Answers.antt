use Rattle.std.proofs.Common.{sym, ◌∙◌}
use Rattle.std.proofs.lemmas.Result.{err_from_is_err_and}
use Rattle.value_pieces.proofs.CallSteps.{arrived-faults, arrived-whole}
use Rattle.batch_feeder.proofs.FeederSteps.{reading-faults, reading-waits, reading-whole, whole-comes, ends, failed-faults}
use Rattle.batch_feeder.proofs.feeder.advance.Goals as goal

pub returns-in-Err : goal.returns-in-Err
returns-in-Err c = rw (← c.new-left.ensures.bytes) (reading-faults _ _ _ c.in-Reading.is c.requires _ _ c.in-Err.ensures.continues)

pub returns-in-Ok-Pending : goal.returns-in-Ok-Pending
returns-in-Ok-Pending c =
    rw (← c.new-left.ensures.bytes) (reading-waits _ _ _ c.in-Reading.is _ _ _ _ (rw c.in-Ok-Pending.field-0-is at c.in-Ok-Pending.ensures.continues))

pub returns-in_err-batch-in-Reading : goal.returns-in_err-batch-in-Reading
returns-in_err-batch-in-Reading c =
    let p = err_from_is_err_and c.from_residual.result c.from_residual.ensures.1 in
    rw (p.1, p.2, ← c.new-left.ensures.bytes)
    (reading-faults _ _ _ c.in-Reading.is c.requires _ _
    (arrived-faults _ _ _ _ _ (sym c.in_err-batch-in-Reading.ensures.value)
    (λ h. c.in_err-batch-in-Reading.ensures.no_want (c.in_err-batch-in-Reading.ensures.value ∙ h))
    (rw c.in-Ok-Complete.field-0-is at c.in-Ok-Complete.ensures.continues)))

pub returns-in_ok-batch-in-Reading : goal.returns-in_ok-batch-in-Reading
returns-in_ok-batch-in-Reading c =
    rw (← c.new-left.ensures.bytes)
    (ends _ _ _ _ _ _ c.complete.ensures
    (reading-whole _ _ _ c.in-Reading.is _ _ _
    (arrived-whole _ _ _ _ _ (sym c.in_ok-batch-in-Reading.ensures.value) (rw c.in-Ok-Complete.field-0-is at c.in-Ok-Complete.ensures.continues)))
    c.end_of.ensures)

pub returns-in-Whole : goal.returns-in-Whole
returns-in-Whole c = rw (← c.new-left.ensures.bytes) (ends _ _ _ _ _ _ c.in-Whole.is (whole-comes _ _ _ c.in-Whole.is) c.end_of-in-Whole.ensures)

pub returns-in-Failed : goal.returns-in-Failed
returns-in-Failed c = failed-faults _ _ _ c.in-Failed.is c.requires
