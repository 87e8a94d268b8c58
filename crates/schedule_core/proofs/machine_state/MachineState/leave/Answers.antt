use Rattle.std.proofs.Common.{◌≡◌, ◌∙◌, List, sym, ap, subst}
use Rattle.schedule_core.specs.declared.outcome.Outcome.TheVariants.{Left}
use Rattle.schedule_core.specs.declared.readers.ReaderState.{ReaderState}
use Rattle.schedule_core.specs.Machine.{Machine, by_reader, leaves}
use Rattle.schedule_core.specs.MachineStates.{machine_of}
use Rattle.schedule_core.proofs.StateSteps.{after}
use Rattle.schedule_core.proofs.ReaderSteps.{left_alike}
use Rattle.schedule_core.proofs.machine_state.MachineState.leave.Goals as goal

pub returns : goal.returns
returns c =
    let was = c.self.inside in
    let r = c.args.reader in
    let here = sym c.get.ensures ∙ c.in-Some.is in
    subst (λ (m : Machine). after Left (machine_of was.copies was.seats was.fronts.items c.set.new.self) ≡ by_reader m r (leaves m r)) c.self.view_is
    (ap (λ (x : List ReaderState). after Left (machine_of was.copies was.seats was.fronts.items x)) c.set.ensures
    ∙ left_alike was.copies was.seats was.fronts.items was.readers r c.in-Some.state here c.if-is_none.ensures)
