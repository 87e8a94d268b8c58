use Rattle.std.proofs.Common.{◌≡◌, ℕ, length, get_or}
use Rattle.std.specs.Prelude.{vec_capacity}
use Rattle.arrival_journal.proofs.seats.set_last_number.Given as goal

abbrev pub invariant-loop-seat : goal.invariant-loop-seat
invariant-loop-seat l = record {
  numbers : (s : ℕ) → get_or l.numbers.items s 0 ≡ get_or l.fn.numbers.items s 0;
  reached : length l.numbers.items ≡ l._seat;
  capacity : vec_capacity l.numbers ≡ vec_capacity l.fn.numbers;
}
