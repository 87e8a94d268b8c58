use Rattle.std.proofs.Common.{rules, ◌≡◌, ◌∙◌, [], ◌∷◌, ◌++◌, sym, subst}
use Rattle.std.proofs.lemmas.List.{map-id}
use Rattle.std.proofs.lemmas.Iterator.Adapters.{YieldsList-from_vec}
use Rattle.std.proofs.lemmas.Iterator.Consumers.{YieldsList-end}
use Rattle.schedule_core.specs.BoundedMachines.{PlaysAs}
use Rattle.schedule_core.proofs.BoundedSteps.{Ran, ran_nothing, ran_on}
use Rattle.schedule_core.proofs.script.outcomes_of.Goals as goal

pub loop-step-init : goal.loop-step-init
loop-step-init c m starts =
    subst (λ os. Ran m [] os c.args.world.now) (sym c.new-outcomes.ensures.items)
    (ran_nothing m c.args.world.now starts)

pub loop-step-preserved : goal.loop-step-preserved
loop-step-preserved c m starts =
    let was = c.loop-step in
    subst (λ os. Ran m (was.yielded ++ c.in-Some.step ∷ []) os c.step.new.self) (sym c.in_ok-push.ensures.items)
    (ran_on m was.yielded was.outcomes.items was.world c.in-Some.step c.step.result c.step.new.self (was.invariant m starts) c.step.ensures)

pub returns : goal.returns
returns c m starts =
    let road = YieldsList-from_vec {s =
    c.into_iter-step-iterator.result} c.args.steps.items c.into_iter-step-iterator.ensures.into_iter_gives.0 (search rules) in
    let all = YieldsList-end road c.loop-step.yielded c.loop-step.step-iterator c.loop-step.yielded_by c.next.result c.next.new.self c.in-None.is
    c.next.ensures.steps in
    let steps : c.loop-step.yielded ≡ c.args.steps.items = sym (map-id c.loop-step.yielded) ∙ all.0 in
    subst (λ ss. PlaysAs m ss c.loop-step.outcomes.items) steps (c.loop-step.invariant m starts).plays
