use Rattle.std.proofs.Common.{◌≡◌, map}
use Rattle.trace_model.specs.Adjusting.{unadjusted, with_parent_first}
use Rattle.trace_adjust.proofs.skew.with_parents_first.Given as goal

abbrev pub invariant-loop-placed : goal.invariant-loop-placed
invariant-loop-placed l = l.shown.items ≡ map unadjusted (map with_parent_first l.yielded)
