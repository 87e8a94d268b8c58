use Rattle.std.proofs.Common.{◌≡◌, ◌≤◌, [], true, false, map, vec_len, vec_capacity}
use Rattle.std.specs.List.{All, range_with_len}
use Rattle.std.specs.Arc.{arc_value}
use Rattle.crossbeam_queue.specs.Passes.{view, IsPassOf, ruled_capacity}
use Rattle.intake.specs.Seats.{SeatValue, IsNewSeat}
use Rattle.intake.proofs.opening.open_desk.Given as goal

abbrev pub invariant-loop-number : goal.invariant-loop-number
invariant-loop-number g l = IsPassOf (arc_value l.shared).queue l.end × ((view l.end).takes ≡ true) × ((view l.end).submits ≡ false)
    × ((view l.end).taken ≡ []) × ((view l.end).ended ≡ []) × ((view l.end).made ≡ l.number)
    × (vec_len l.made ≡ l.number) × (l.seats ≤ vec_capacity l.made)
    × (ruled_capacity (arc_value l.shared).queue ≡ l.capacity)
    × All (IsNewSeat l.end.table_id l.capacity) l.made.items
    × (map (λ (s : SeatValue). s.seat) l.made.items ≡ range_with_len 0 l.number)
