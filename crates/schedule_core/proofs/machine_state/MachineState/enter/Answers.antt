use Rattle.std.proofs.Common.{◌≡◌, ◌∙◌, List, length, sym, ap, subst}
use Rattle.schedule_core.specs.declared.outcome.Outcome.TheVariants.{Entered}
use Rattle.schedule_core.specs.declared.readers.ReaderState.{ReaderState}
use Rattle.schedule_core.specs.Machine.{Machine, by_reader, enters}
use Rattle.schedule_core.specs.MachineStates.{IsState, machine_of}
use Rattle.schedule_core.proofs.StateSteps.{after, state_set}
use Rattle.schedule_core.proofs.ReaderSteps.{entered_alike, stands_entered}
use Rattle.schedule_core.proofs.machine_state.MachineState.enter.Goals as goal

pub invariant_of-self : goal.invariant_of-self
invariant_of-self c =
    let was = c.self.inside in
    let here = sym c.get.ensures ∙ c.in-Some.is in
    let publishes = c.publishes.ensures ∙ ap (λ (m : Machine). length m.fronts) (sym c.self.view_is) in
    subst (λ places. IsState was.copies was.seats was.fronts.items places) (sym c.set.ensures)
    (state_set was.copies was.seats was.fronts.items was.readers c.args.reader _ c.self.invariant
    (stands_entered was.copies was.seats was.fronts.items was.readers c.args.reader c.in-Some.state here
    c.front-front.result c.publishes.result c.front-front.ensures publishes))

pub returns : goal.returns
returns c =
    let was = c.self.inside in
    let here = sym c.get.ensures ∙ c.in-Some.is in
    let publishes = c.publishes.ensures ∙ ap (λ (m : Machine). length m.fronts) (sym c.self.view_is) in
    subst (λ (m : Machine). after (Entered c.front-front.result) (machine_of was.copies was.seats was.fronts.items c.set.new.self)
    ≡ by_reader m c.args.reader (λ reader. enters m c.args.reader reader.inside)) c.self.view_is
    (ap (λ (x : List ReaderState). after (Entered c.front-front.result) (machine_of was.copies was.seats was.fronts.items x)) c.set.ensures
    ∙ entered_alike was.copies was.seats was.fronts.items was.readers c.args.reader c.in-Some.state here
    c.front-front.result c.publishes.result (sym c.if-is_some.ensures) c.front-front.ensures publishes)
