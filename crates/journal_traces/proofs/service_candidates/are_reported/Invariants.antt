use Rattle.std.proofs.Common.{◌≡◌}
use Rattle.journal_traces.specs.ReportedSpots.{are_reported}
use Rattle.journal_traces.proofs.service_candidates.are_reported.Given as goal

abbrev pub invariant-loop-spot : goal.invariant-loop-spot
invariant-loop-spot l =
    are_reported l.journal.held.entries l.by_service.service_numbers l.service_number l.spot-iterator
    ≡ are_reported l.journal.held.entries l.by_service.service_numbers l.service_number l.fn.spots
