use Rattle.std.proofs.Common.{◌≡◌, take}
use Rattle.trace_model.specs.TakenSpans.{placed_taken}
use Rattle.trace_adjust.proofs.showing.copied.Given as goal

abbrev pub invariant-loop-span : goal.invariant-loop-span
invariant-loop-span l = l.spans.items ≡ placed_taken (take l.span-index l.taken)
