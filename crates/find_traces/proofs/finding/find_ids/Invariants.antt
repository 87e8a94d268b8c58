use Rattle.std.proofs.Common.{◌≡◌, take}
use Rattle.std.specs.List.{filter_map}
use Rattle.find_traces.specs.FoundIndices.{id_at}
use Rattle.find_traces.proofs.finding.find_ids.Given as goal

abbrev pub invariant-loop-index : goal.invariant-loop-index
invariant-loop-index g l = l.ids.items ≡ filter_map (id_at (g.T.Searched.traces l.fn.traces)) (take l.index-index l.index-items)
