use Rattle.std.proofs.Common.{map, subst, sym}
use Rattle.query_json.specs.NamedProcesses.{AreNamed}
use Rattle.answer_trees.specs.ProcessNumbers.{first_process}
use Rattle.query_json.proofs.writing.processes.in_order.Goals as goal

pub returns : goal.returns
returns c = λ spans all. subst (AreNamed spans (map first_process c.args.processes.now)) (sym c.in_ok-order.ensures) (c.in_ok-named.ensures spans all)
