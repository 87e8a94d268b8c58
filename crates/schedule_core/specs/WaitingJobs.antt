-- Jobs that wait, and the last number of each seat.
use Rattle.std.specs.Prelude.{ℕ, ◌+◌, List, [], ◌∷◌, ◌++◌, Option, Some, None, if◌then◌else◌, nat_lt, slice_get, slice_set}
use Rattle.trace_model.specs.declared.entry.Entry.{Entry}
use Rattle.trace_model.specs.declared.entry.Work.{Work}

pub record Queued : Type 0 where
  pub waiting : List Entry
  pub numbers : List ℕ

-- the number after the seat's last one; none if there is no such seat, or its numbers are used up
abbrev pub number_after : Option ℕ → Option ℕ
number_after None = None
number_after (Some last) = if nat_lt last 18446744073709551615 then Some (last + 1) else None

abbrev pub next_number : List ℕ → ℕ → Option ℕ
next_number numbers seat = number_after (slice_get numbers seat)

-- the job waits after the others, if it has a number
abbrev pub queued : Queued → ℕ → Work → Option ℕ → Queued
queued q seat work None = q
queued q seat work (Some number) = record {
  waiting = q.waiting ++ record { seat = seat; number = number; work = work } ∷ [];
  numbers = slice_set q.numbers seat number;
}
