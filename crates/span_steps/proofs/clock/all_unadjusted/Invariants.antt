use Rattle.std.proofs.Common.{◌≡◌, map}
use Rattle.trace_model.specs.Adjusting.{unadjusted}
use Rattle.span_steps.proofs.clock.all_unadjusted.Given as goal

abbrev pub invariant-loop-placed : goal.invariant-loop-placed
invariant-loop-placed l = l.shown.items ≡ map unadjusted l.yielded
