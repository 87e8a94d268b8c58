use Rattle.std.proofs.Common.{◌≡◌, take}
use Rattle.trace_model.specs.Adjusting.{spans_of}
use Rattle.trace_adjust.proofs.skew.all_unchanged.Given as goal

abbrev pub invariant-loop-shown : goal.invariant-loop-shown
invariant-loop-shown l = l.lent.items ≡ spans_of (take l.shown-index l.trace)
