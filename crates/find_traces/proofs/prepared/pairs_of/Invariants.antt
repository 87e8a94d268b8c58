use Rattle.std.proofs.Common.{◌≡◌, ℕ, List, take}
use Rattle.std.specs.List.{list_any}
use Rattle.find_traces.specs.RequestedPairs.{same_pair, is_in}
use Rattle.find_traces.proofs.prepared.pairs_of.Given as goal

abbrev pub invariant-loop-pair : goal.invariant-loop-pair
invariant-loop-pair l = (a : List ℕ × List ℕ) → is_in l.pairs.keys a ≡ list_any (same_pair a) (take l.pair-index l.requested)
