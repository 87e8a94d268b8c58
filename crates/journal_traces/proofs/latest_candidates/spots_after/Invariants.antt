use Rattle.std.proofs.Common.{◌≡◌, map, take, get_or}
use Rattle.journal_traces.proofs.SpansAtSpots.{no_id}
use Rattle.trace_assembly.specs.AssembledRows.{spots_of}
use Rattle.journal_traces.proofs.latest_candidates.spots_after.Given as goal

abbrev pub invariant-loop-index : goal.invariant-loop-index
invariant-loop-index l = l.spots.items ≡ map (λ p. spots_of l.assembly (get_or l.assembly.newest.ids p no_id)) (take l.index-index l.index-items)
