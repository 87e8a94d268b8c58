use Rattle.std.proofs.Common.{append_assoc, rules}
use Rattle.std.proofs.lemmas.Result.{IfOk-equal}
use Rattle.trace_server.proofs.output_lines.books_line.Goals as goal

pub returns : goal.returns
returns c = search (rules, IfOk-equal, append_assoc)
