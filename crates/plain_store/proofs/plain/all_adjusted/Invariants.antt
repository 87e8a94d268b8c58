use Rattle.std.proofs.Common.{◌≡◌, map}
use Rattle.trace_model.specs.Adjusting.{adjusted}
use Rattle.plain_store.proofs.plain.all_adjusted.Given as goal

abbrev pub invariant-loop-trace : goal.invariant-loop-trace
invariant-loop-trace l = l.shown.items ≡ map (adjusted l.limits.max_skew) l.yielded
