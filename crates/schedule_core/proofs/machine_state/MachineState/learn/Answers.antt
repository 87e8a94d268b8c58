use Rattle.std.proofs.Common.{◌≡◌, ◌∙◌, List, sym, ap, subst}
use Rattle.std.specs.Option.{option_map_or}
use Rattle.schedule_core.specs.declared.outcome.Outcome.TheVariants.{Learnt, Unknown}
use Rattle.schedule_core.specs.declared.readers.ReaderState.{ReaderState}
use Rattle.schedule_core.specs.Machine.{Machine, by_reader, front_of, learns, stays}
use Rattle.schedule_core.specs.MachineStates.{machine_of}
use Rattle.schedule_core.proofs.StateSteps.{after}
use Rattle.schedule_core.proofs.ReaderSteps.{learnt_alike}
use Rattle.schedule_core.proofs.machine_state.MachineState.learn.Goals as goal

pub returns : goal.returns
returns c =
    let was = c.self.inside in
    let r = c.args.reader in
    let here = sym c.get.ensures ∙ c.in-Some.is in
    let front = ap (λ (m : Machine). front_of m c.args.publish) c.self.view_is ∙ sym c.front_of.ensures ∙ c.in-Some-front_of.is in
    subst (λ (m : Machine). after (Learnt c.max-seen.result) (machine_of was.copies was.seats was.fronts.items c.set.new.self)
    ≡ by_reader m r (λ reader. option_map_or (learns m r reader) (front_of m c.args.publish) (stays m Unknown))) c.self.view_is
    (ap (λ (x : List ReaderState). after (Learnt c.max-seen.result) (machine_of was.copies was.seats was.fronts.items x)) c.set.ensures
    ∙ learnt_alike was.copies was.seats was.fronts.items was.readers r c.in-Some.state here
    c.args.publish c.in-Some-front_of.front c.max-seen.result c.self.invariant front (sym c.if-is_some.ensures) c.max-seen.ensures)
