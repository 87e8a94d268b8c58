use Rattle.std.proofs.Common.{◌≡◌, map, take}
use Rattle.find_traces.specs.Keys.{reverse_key_index}
use Rattle.find_traces.proofs.matched.indices_of.Given as goal

abbrev pub invariant-loop-hit : goal.invariant-loop-hit
invariant-loop-hit l = l.indices.items ≡ map reverse_key_index (take l.hit-index l.hits)
