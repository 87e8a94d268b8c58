use Rattle.std.proofs.lemmas.Result.{on_ok_weaker}
use Rattle.commands.proofs.PlayLines.{made_and_said}
use Rattle.commands.proofs.play.script.play_step.Goals as goal

pub returns : goal.returns
returns c =
    on_ok_weaker c.write_outcome.result
    (λ reply. made_and_said _ _ c.args.world.now c.make.new.world c.args.step c.in_ok-outcome.outcome c.in_ok-outcome.ensures reply)
    c.write_outcome.ensures
