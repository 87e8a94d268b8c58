use Rattle.schedule_core.proofs.StateSteps.{state_submitted}
use Rattle.schedule_core.proofs.machine_state.MachineState.put.Goals as goal

pub invariant_of-self-2 : goal.invariant_of-self-2
invariant_of-self-2 c =
    let was = c.self.inside in
    state_submitted was.copies was.seats was.fronts.items was.readers c.args.seat c.args.work c.in_ok-number.field-0 c.submit.new.self
    c.self.invariant c.in_ok-number.ensures.number c.in_ok-number.ensures.queued
