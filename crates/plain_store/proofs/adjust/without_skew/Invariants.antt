use Rattle.std.proofs.Common.{◌≡◌, ◌++◌, take, drop}
use Rattle.trace_model.specs.Adjusting.{skew_adjusted, skew_adjusted_after}
use Rattle.plain_store.proofs.adjust.without_skew.Given as goal

-- the spans shown so far, followed by those still to be shown, are all
abbrev pub invariant-loop-i : goal.invariant-loop-i
invariant-loop-i l = l.shown.items ++ skew_adjusted_after l.max_skew l.trace (take l.i l.trace) (drop l.i l.trace) ≡ skew_adjusted l.max_skew l.trace
