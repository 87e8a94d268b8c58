use Rattle.std.proofs.Common.{map}
use Rattle.commands.proofs.SubcommandArguments.{takes_as}
use Rattle.commands.proofs.arguments.matches_of.Goals as goal

pub returns-in-Err-clause-taken : goal.returns-in-Err-clause-taken
returns-in-Err-clause-taken g c app makes taken =
    let arguments = map g.S.AsStr.text c.args.arguments.now in
    c.explain.ensures.memory (c.in-Err.ensures.passes (takes_as c.args.made c.in-Ok.command app arguments c.in-Ok.is makes taken))
