use Rattle.std.proofs.Common.{◌≡◌, ◌≤◌, ◌+◌, ℕ, length}
use Rattle.query_json.specs.Pieces.{runs_of}
use Rattle.query_json.specs.Runs.{AllFit, left_at, runs_text, steps}
use Rattle.query_json.proofs.paging.measure.Given as goal

abbrev pub invariant-loop-at : goal.invariant-loop-at
invariant-loop-at l =
    let rs = left_at (runs_of l.items) l.fn.from.run l.fn.from.piece in
    let now = left_at (runs_of l.items) l.at.run l.at.piece in
    record {
      rest_len : l.rest_len + length (runs_text now) ≡ length (runs_text rs);
      bounds : (most : ℕ) → l.largest ≤ most → AllFit most now → AllFit most rs;
    }

abbrev pub decreases-loop-at : goal.decreases-loop-at
decreases-loop-at l = steps (left_at (runs_of l.items) l.at.run l.at.piece)
