use Rattle.std.proofs.Common.{◌≡◌, take}
use Rattle.trace_model.specs.TakenSpans.{numbers_taken}
use Rattle.trace_adjust.proofs.process_keys.process_keys_of.Given as goal

abbrev pub invariant-loop-span : goal.invariant-loop-span
invariant-loop-span l = l.keys.items ≡ numbers_taken (take l.span-index l.spans)
