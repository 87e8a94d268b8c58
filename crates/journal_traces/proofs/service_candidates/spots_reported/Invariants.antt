use Rattle.std.proofs.Common.{◌≡◌, map, take}
use Rattle.std.specs.Prelude.{filter}
use Rattle.trace_assembly.specs.AssembledRows.{spots_of}
use Rattle.journal_traces.specs.ReportedSpots.{are_reported}
use Rattle.journal_traces.proofs.service_candidates.spots_reported.Given as goal

abbrev pub invariant-loop-index : goal.invariant-loop-index
invariant-loop-index l =
    l.found.items ≡ map (spots_of l.assembly)
    (filter (λ t. are_reported l.journal.held.entries l.by_service.service_numbers l.service_number (spots_of l.assembly t))
    (take l.index l.assembly.newest.ids))
