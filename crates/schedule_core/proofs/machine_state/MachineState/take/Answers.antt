use Rattle.std.proofs.Common.{◌≡◌, ◌++◌, subst}
use Rattle.std.specs.Arc.{arc_value}
use Rattle.trace_model.specs.Refusals.{admission}
use Rattle.schedule_core.specs.Machine.{Machine, takes}
use Rattle.schedule_core.specs.MachineStates.{machine_of}
use Rattle.schedule_core.proofs.StateSteps.{after, state_after, taken_alike}
use Rattle.schedule_core.proofs.machine_state.MachineState.take.Goals as goal

pub invariant_of-self-2 : goal.invariant_of-self-2
invariant_of-self-2 c =
    let was = c.self.inside in
    let job = arc_value c.in-Some.job in
    state_after was.copies c.judge.new.copies was.seats c.take.new.self was.fronts.items was.readers job c.judge.result
    (admission was.copies.limits (was.copies.history ++ was.copies.pending) job) c.self.invariant c.in-Some.ensures c.judge.ensures

pub returns : goal.returns
returns c =
    let was = c.self.inside in
    subst (λ (m : Machine). after c.judge.result (machine_of c.judge.new.copies c.take.new.self was.fronts.items was.readers) ≡ takes m m.waiting)
    c.self.view_is
    (taken_alike was.copies c.judge.new.copies was.seats c.take.new.self was.fronts.items was.readers (arc_value c.in-Some.job) c.judge.result
    c.self.invariant c.in-Some.ensures c.judge.ensures)
