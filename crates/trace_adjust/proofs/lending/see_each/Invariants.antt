use Rattle.std.proofs.Common.{take}
use Rattle.trace_adjust.specs.LentSpans.{AreThere}
use Rattle.trace_adjust.proofs.lending.see_each.Given as goal

abbrev pub invariant-loop-span : goal.invariant-loop-span
invariant-loop-span l = AreThere (take l.span-index l.spans)
