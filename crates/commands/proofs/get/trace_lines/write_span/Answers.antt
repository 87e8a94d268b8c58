use Rattle.std.proofs.Common.{append_assoc, rules}
use Rattle.std.proofs.lemmas.Result.{IfOk-equal}
use Rattle.commands.proofs.get.trace_lines.write_span.Goals as goal

pub returns : goal.returns
returns c = search (rules, IfOk-equal, append_assoc)
