use Rattle.std.proofs.Common.{◌≡◌, ◌-◌, ◌≤◌, Bool, List, length, map, take}
use Rattle.std.specs.Prelude.{filter}
use Rattle.trace_assembly.specs.declared.spot.Spot.{Spot}
use Rattle.trace_assembly.specs.AssembledRows.{spots_of}
use Rattle.journal_traces.specs.TraceRanges.{FailsOutside}
use Rattle.journal_traces.proofs.window_candidates.spots_within.Given as goal

abbrev pub invariant-loop-index : goal.invariant-loop-index
invariant-loop-index l = record {
  place : l.index ≤ length l.assembly.newest.ids;
  found : (p : List Spot → Bool) → FailsOutside l.window l.starts l.assembly p
      → filter p l.spots.items ≡ filter p (map (spots_of l.assembly) (take l.index l.assembly.newest.ids));
}

abbrev pub decreases-loop-index : goal.decreases-loop-index
decreases-loop-index l = length l.assembly.newest.ids - l.index
