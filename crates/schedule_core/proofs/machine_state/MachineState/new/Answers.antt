use Rattle.std.proofs.Common.{sym, subst, [], replicate}
use Rattle.schedule_core.specs.CopiedLists.{Copied}
use Rattle.schedule_core.specs.WaitingJobs.{Queued}
use Rattle.schedule_core.specs.MachineStates.{IsState}
use Rattle.schedule_core.proofs.StateSteps.{state_first}
use Rattle.schedule_core.proofs.machine_state.MachineState.new.Goals as goal

pub invariant_of-result : goal.invariant_of-result
invariant_of-result c =
    let copies : Copied = record { limits = c.args.limits; before = []; history = []; pending = [] } in
    let seats : Queued = record { waiting = []; numbers = replicate 64 0 } in
    subst (λ k. IsState k c.in_ok-seats.seats c.new-4.result.items c.in-Ok.readers) (sym c.in-Ok-new.ensures)
    (subst (λ q. IsState copies q c.new-4.result.items c.in-Ok.readers) (sym c.in_ok-seats.ensures)
    (subst (λ fronts. IsState copies seats fronts c.in-Ok.readers) (sym c.new-4.ensures.items)
    (subst (λ places. IsState copies seats [] places) (sym c.in-Ok.ensures) (state_first c.args.limits 64))))
