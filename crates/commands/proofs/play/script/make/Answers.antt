use Rattle.commands.proofs.PlayLines.{is_made}
use Rattle.commands.proofs.play.script.make.Goals as goal

pub returns : goal.returns
returns c =
    is_made c.args.world.now c.args.step c.step-outcome.result c.step-outcome.new.self c.step-outcome.ensures (c.is_no_memory.ensures c.if-is_no_memory.false)
