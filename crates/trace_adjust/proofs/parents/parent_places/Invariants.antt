use Rattle.std.proofs.Common.{◌≡◌, map, take}
use Rattle.trace_adjust.specs.KnownClocks.{place_in}
use Rattle.trace_adjust.proofs.parents.parent_places.Given as goal

abbrev pub invariant-loop-placed : goal.invariant-loop-placed
invariant-loop-placed l = l.parents.items ≡ map (place_in l.trace) (take l.placed-index l.trace)
