use Rattle.std.proofs.Common.{◌≡◌, take}
use Rattle.journal_traces.specs.SkippedEntries.{requested_bits}
use Rattle.journal_traces.proofs.pruning.requested_bits.Given as goal

abbrev pub invariant-loop-pair : goal.invariant-loop-pair
invariant-loop-pair l = l.bits ≡ requested_bits (take l.pair-index l.asked)
