use Rattle.std.proofs.Common.{◌≡◌}
use Rattle.intake_tests.proofs.tests.ending.submit_batches.Given as goal

-- the seat is of its desk, and may submit if it could before
abbrev pub invariant-loop-id : goal.invariant-loop-id
invariant-loop-id g l = (l.submitter.seat.desk ≡ l.fn.submitter.seat.desk) × (l.submitter.seat.may_submit ≡ l.fn.submitter.seat.may_submit)
