use Rattle.std.proofs.Common.{◌≡◌, ◌++◌, map}
use Rattle.query_json.proofs.writing.processes.in_its_order.Given as goal

abbrev pub invariant-loop-process : goal.invariant-loop-process
invariant-loop-process l = l.order.items ++ map (λ e. e.1) l.process-iterator ≡ map (λ e. e.1) l.named.entries
