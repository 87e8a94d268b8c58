use Rattle.std.proofs.Common.{◌+◌, ◌∙◌, ap, length, length-append}
use Rattle.intake.proofs.opening.bells.Goals as goal

pub loop-made-preserved : goal.loop-made-preserved
loop-made-preserved c =
    ap length c.in_ok-push.ensures.items ∙ length-append c.loop-made.bells.items _ ∙ ap (λ n. n + 1) c.loop-made.invariant
