use Rattle.std.proofs.Common.{◌≡◌, map, take}
use Rattle.plain_store.proofs.adjust.parent_places.Given as goal
use Rattle.trace_model.specs.ServiceLinks.{place_of_parent}

abbrev pub invariant-loop-placed : goal.invariant-loop-placed
invariant-loop-placed l = l.parents.items ≡ map (place_of_parent l.trace) (take l.placed-index l.trace)
