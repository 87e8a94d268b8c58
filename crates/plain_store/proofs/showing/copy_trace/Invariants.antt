use Rattle.std.proofs.Common.{◌≡◌, take}
use Rattle.trace_model.specs.ShownSpans.{of_trace}
use Rattle.plain_store.proofs.showing.copy_trace.Given as goal

abbrev pub invariant-loop-placed : goal.invariant-loop-placed
invariant-loop-placed l = l.own.items ≡ of_trace l.id (take l.placed-index l.spans)
