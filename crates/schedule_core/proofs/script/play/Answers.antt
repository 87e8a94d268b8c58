use Rattle.std.proofs.Common.{inl}
use Rattle.std.proofs.lemmas.Result.{IfOk-weaker}
use Rattle.schedule_core.proofs.RunFacts.{played_from}
use Rattle.schedule_core.proofs.script.play.Goals as goal

pub returns : goal.returns
returns c =
    IfOk-weaker c.outcomes_of-outcomes.result _ _
    (λ outcomes. played_from c.args.limits c.args.steps.items outcomes.items c.in_ok-world.world (inl c.in_ok-world.ensures))
    c.outcomes_of-outcomes.ensures
