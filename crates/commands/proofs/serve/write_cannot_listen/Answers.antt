use Rattle.std.proofs.Common.{inr, [], refl}
use Rattle.trace_server.proofs.ServerEnds.{broken_off}
use Rattle.commands.proofs.serve.write_cannot_listen.Goals as goal

pub returns-in_default : goal.returns-in_default
returns-in_default g c = ([], inr (broken_off _ (g.W.Output.has_failed c.args.output.now) [] _ refl c.requires))
