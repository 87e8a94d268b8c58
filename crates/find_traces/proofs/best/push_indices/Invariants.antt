use Rattle.std.proofs.Common.{◌≡◌, List, ◌++◌, map, length}
use Rattle.find_traces.specs.Keys.{reverse_key_index}
use Rattle.find_traces.proofs.best.push_indices.Given as goal

abbrev pub invariant-loop-key : goal.invariant-loop-key
invariant-loop-key l = l.indices.items ++ map reverse_key_index l.keys.keys.keys ≡ l.fn.indices.items ++ map reverse_key_index l.fn.keys.keys.keys

abbrev pub decreases-loop-key : goal.decreases-loop-key
decreases-loop-key l = length l.keys.keys.keys
