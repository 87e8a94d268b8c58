use Rattle.std.proofs.Common.{◌≡◌, map}
use Rattle.trace_model.specs.Adjusting.{with_parent_first}
use Rattle.plain_store.proofs.adjust.with_parents_first.Given as goal

abbrev pub invariant-loop-placed : goal.invariant-loop-placed
invariant-loop-placed l = l.spans.items ≡ map with_parent_first l.yielded
