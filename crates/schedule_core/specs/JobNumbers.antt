-- The numbers of jobs that wait after what is accepted.
use Rattle.std.specs.Prelude.{ℕ, ◌≤◌, List, ◌++◌, slice_index}
use Rattle.std.specs.List.{All}
use Rattle.trace_model.specs.declared.entry.Entry.{Entry}
use Rattle.trace_model.specs.Histories.{RisesAfter}

-- The numbers of each seat are ascending along what waits, from its last accepted number on, and the seat's last
-- number is at least each of them.
pub record IsNumbered (accepted waiting : List Entry) (numbers : List ℕ) : Type 0 where
  pub rising : RisesAfter accepted waiting
  pub below : All (λ (e : Entry). e.number ≤ slice_index numbers e.seat) (accepted ++ waiting)
