-- The invariant of a journal's fields.
use Rattle.std.specs.Prelude.{◌≡◌, ◌≤◌, ℕ, Bool, true, List, get_or}
use Rattle.trace_model.specs.declared.entry.Entry.{Entry}
use Rattle.trace_model.specs.declared.limits.Limits.{Limits}
use Rattle.trace_model.specs.Histories.{IsLegal, span_count, last_number}
use Rattle.sent_batches.specs.SentIndex.{Sent, IsSentKept}
use Rattle.arrival_journal.specs.declared.outline.Outline.{Outline}
use Rattle.arrival_journal.specs.Outlines.{outlines_kept}

-- the entries of a journal, what it keeps beside them, and the capacities of its lists
pub record JournalParts : Type 0 where
  pub limits : Limits
  pub entries : List Entry
  pub entry_capacity : ℕ
  pub keeps_outlines : Bool
  pub outlines : List Outline
  pub outline_capacity : ℕ
  pub spans : ℕ
  pub last_numbers : List ℕ
  pub seat_capacity : ℕ
  pub sent : Sent

-- the entries are legal, what is kept beside them is computed of them, and there is room for all entries, for their
-- outlines if these are kept, and for every seat
pub record IsJournalKept (j : JournalParts) : Type 0 where
  pub legal : IsLegal j.limits j.entries
  pub room : j.limits.batches ≤ j.entry_capacity
  pub outlined : j.outlines ≡ outlines_kept j.keeps_outlines j.entries
  pub room_for_outlines : j.keeps_outlines ≡ true → j.limits.batches ≤ j.outline_capacity
  pub counted : j.spans ≡ span_count j.entries
  pub last : (seat : ℕ) → get_or j.last_numbers seat 0 ≡ last_number seat j.entries
  -- the number of seats is written out on purpose: a constant that changes by itself is refused
  pub seats_fit : 65536 ≤ j.seat_capacity
  pub known : IsSentKept j.entries j.sent
  pub room_for_sent : j.limits.batches ≤ j.sent.room
