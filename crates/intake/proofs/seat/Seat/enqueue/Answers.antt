use Rattle.std.proofs.Common.{rules, refl, ◌≡◌, ◌<◌, ◌-◌, ◌^◌, true, length, ◌++◌, inr}
use Rattle.intake.specs.Queues.{jobs_of}
use Rattle.intake.proofs.Steps.{puts, full}
use Rattle.intake.proofs.seat.Seat.enqueue.Goals as goal

pub push_as-requires-clause-rule : goal.push_as-requires-clause-rule
push_as-requires-clause-rule g c = (puts _ _ _ _ (search rules) c.self.invariant.1 (search rules) (search rules), full _ _ (search rules))

pub returns-in-Err-push_as-clause-reason : goal.returns-in-Err-push_as-clause-reason
returns-in-Err-push_as-clause-reason g c =
    let seat = c.args.self.now in
    let held = c.in-Err-push_as.ensures.rule.2 in
    let may : seat.may_submit ≡ true = search rules in
    let left : length seat.jobs < 2 ^ 64 - 1 = search rules in
    let room : length held.0 ≡ seat.capacity = search rules in
    let list : jobs_of seat.seat (held.2.0 ++ held.0) ≡ seat.jobs = search rules in
    inr (inr (refl, (may, left), (held.0, room, held.2.0, list)))
