use Rattle.std.proofs.Common.{◌≡◌, map, take}
use Rattle.trace_model.specs.Adjusting.{with_parent_first}
use Rattle.trace_model.specs.TakenSpans.{placed_taken}
use Rattle.trace_adjust.proofs.lending.all_lent.Given as goal

abbrev pub invariant-loop-span : goal.invariant-loop-span
invariant-loop-span l = l.lent.items ≡ map with_parent_first (placed_taken (take l.span-index l.spans))
