use Rattle.std.proofs.Common.{◌≡◌, take}
use Rattle.trace_adjust.proofs.skew.copies_of.Given as goal

abbrev pub invariant-loop-shown : goal.invariant-loop-shown
invariant-loop-shown l = l.copies.items ≡ take l.shown-index l.trace
