use Rattle.std.proofs.Common.{◌≡◌, take}
use Rattle.find_traces.specs.RequestedPairs.{key_bits}
use Rattle.find_traces.proofs.prepared.key_bits.Given as goal

abbrev pub invariant-loop-pair : goal.invariant-loop-pair
invariant-loop-pair l = l.bits ≡ key_bits (take l.pair-index l.requested)
