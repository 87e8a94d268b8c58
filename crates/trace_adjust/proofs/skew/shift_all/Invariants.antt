use Rattle.std.proofs.Common.{◌≡◌, ◌++◌, take, drop}
use Rattle.trace_model.specs.Adjusting.{shown_adjusted}
use Rattle.trace_adjust.proofs.skew.shift_all.Given as goal

abbrev pub invariant-loop-place : goal.invariant-loop-place
invariant-loop-place l = l.trace ≡ take l.place (shown_adjusted l.max_skew l.fn.trace) ++ drop l.place l.fn.trace
