use Rattle.std.proofs.Common.{◌≡◌, length}
use Rattle.query_json.specs.Parts.{to_come}
use Rattle.open_connections.specs.UnsentResponses.{TakesFirst}
use Rattle.open_connections.proofs.buffered.write_some.Given as goal

abbrev pub invariant-loop-connection : goal.invariant-loop-connection
invariant-loop-connection g l =
    TakesFirst (g.C.TryConnection.contents l.initial.connection) (g.C.TryConnection.contents l.connection) (to_come l.initial.waiting) (to_come l.waiting)
    × (g.C.Input.remaining l.connection ≡ g.C.Input.remaining l.initial.connection)
    × (g.C.Input.has_failed l.connection ≡ g.C.Input.has_failed l.initial.connection)

abbrev pub decreases-loop-connection : goal.decreases-loop-connection
decreases-loop-connection g l = length (to_come l.waiting)
