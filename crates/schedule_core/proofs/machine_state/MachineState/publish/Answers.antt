use Rattle.std.proofs.Common.{◌≡◌, ◌∙◌, [], ◌∷◌, ◌++◌, length, sym, ap, subst}
use Rattle.std.specs.List.{position}
use Rattle.schedule_core.specs.declared.outcome.Outcome.TheVariants.{Held, Published}
use Rattle.schedule_core.specs.Machine.{Machine, publishes}
use Rattle.schedule_core.specs.ReaderStates.{is_held}
use Rattle.schedule_core.specs.MachineStates.{IsState, machine_of}
use Rattle.schedule_core.proofs.StateSteps.{after, held_alike, published_alike, state_kept, state_swapped}
use Rattle.schedule_core.proofs.machine_state.MachineState.publish.Goals as goal

pub returns-in-Some : goal.returns-in-Some
returns-in-Some c =
    let was = c.self.inside in
    let count = c.publishes.ensures ∙ ap (λ (m : Machine). length m.fronts) (sym c.self.view_is) in
    let first = ap (λ n. position (is_held n) was.readers) (sym count) ∙ sym c.first_held.ensures ∙ c.in-Some.is in
    subst (λ (m : Machine). after (Held c.in-Some.reader) m ≡ publishes m) c.self.view_is
    (held_alike was.copies was.seats was.fronts.items was.readers c.in-Some.reader first)

pub invariant_of-self-in_err-publish : goal.invariant_of-self-in_err-publish
invariant_of-self-in_err-publish c =
    let was = c.self.inside in
    let count = c.publishes.ensures ∙ ap (λ (m : Machine). length m.fronts) (sym c.self.view_is) in
    let none = ap (λ n. position (is_held n) was.readers) (sym count) ∙ sym c.first_held.ensures ∙ c.in_default.is in
    subst (λ fronts. IsState c.publish.new.self was.seats fronts was.readers) (sym c.reserve.ensures.items)
    (subst (λ copies. IsState copies was.seats was.fronts.items was.readers) (sym c.in_err-publish.ensures.stays)
    (state_kept was.copies c.publish.new.self.before was.seats was.fronts.items was.readers c.self.invariant none))

pub invariant_of-self-2 : goal.invariant_of-self-2
invariant_of-self-2 c =
    let was = c.self.inside in
    let count = c.publishes.ensures ∙ ap (λ (m : Machine). length m.fronts) (sym c.self.view_is) in
    let none = ap (λ n. position (is_held n) was.readers) (sym count) ∙ sym c.first_held.ensures ∙ c.in_default.is in
    let grown = c.push_reserved.ensures.items ∙ ap (λ fronts. fronts ++ c.front-front.result ∷ []) c.reserve.ensures.items in
    state_swapped was.copies c.publish.new.self was.seats was.fronts.items c.push_reserved.new.self.items was.readers c.front-front.result
    c.self.invariant none c.in_ok-publish.ensures.swapped c.front-front.ensures grown

pub returns : goal.returns
returns c =
    let was = c.self.inside in
    let count = c.publishes.ensures ∙ ap (λ (m : Machine). length m.fronts) (sym c.self.view_is) in
    let none = ap (λ n. position (is_held n) was.readers) (sym count) ∙ sym c.first_held.ensures ∙ c.in_default.is in
    let grown = c.push_reserved.ensures.items ∙ ap (λ fronts. fronts ++ c.front-front.result ∷ []) c.reserve.ensures.items in
    subst (λ (m : Machine). after (Published c.front-front.result) (machine_of c.publish.new.self was.seats c.push_reserved.new.self.items was.readers)
    ≡ publishes m) c.self.view_is
    (published_alike was.copies c.publish.new.self was.seats was.fronts.items c.push_reserved.new.self.items was.readers c.front-front.result
    c.self.invariant none c.in_ok-publish.ensures.swapped c.front-front.ensures grown)
