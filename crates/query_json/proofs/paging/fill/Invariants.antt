use Rattle.query_json.specs.Pieces.{runs_of}
use Rattle.query_json.specs.Runs.{Fills, left_at, steps}
use Rattle.query_json.proofs.paging.fill.Given as goal

abbrev pub invariant-loop-at : goal.invariant-loop-at
invariant-loop-at l =
    Fills l.fn.enough l.fn.page l.page (left_at (runs_of l.items) l.fn.from.run l.fn.from.piece) (left_at (runs_of l.items) l.at.run l.at.piece)

abbrev pub decreases-loop-at : goal.decreases-loop-at
decreases-loop-at l = steps (left_at (runs_of l.items) l.at.run l.at.piece)
