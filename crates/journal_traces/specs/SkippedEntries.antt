-- Entries that a search skips.
use Rattle.std.specs.Prelude.{ℕ, ◌/◌, ◌%◌, ℤ, pos, ◌-ℤ◌, ◌*ℤ◌, ◌==◌, int_lt, Bool, ◌&&◌, List, get_or}
use Rattle.std.specs.Int.{bit_at}
use Rattle.std.specs.List.{list_all, fold}
use Rattle.trace_model.specs.declared.query.Find.{Find}
use Rattle.trace_model.specs.Searching.{at_least, at_most, bound}
use Rattle.arrival_journal.specs.declared.times.Times.{Times}
use Rattle.arrival_journal.specs.declared.outline.Outline.{Outline}
use Rattle.arrival_journal.specs.TagBits.{tag_place, no_bits, with_bit}

-- the bounds of the spans' durations overlap those of the search
abbrev pub may_meet_durations : Find → Times → Bool
may_meet_durations q t = at_least (bound q.duration_min) t.duration_max && at_most (bound q.duration_max) t.duration_min

-- the bounds of their starts do
abbrev pub may_meet_starts : Find → Times → Bool
may_meet_starts q t = at_least q.start_min t.start_max && at_most q.start_max t.start_min

-- the bit at a place, of bits in words of 64
abbrev pub bit_of_words : List ℕ → ℕ → ℕ
bit_of_words words place = bit_at (get_or words (place / 64) 0) (place % 64)

-- the bit of a requested tag is among these
abbrev pub is_marked : List ℕ → List ℕ × List ℕ → Bool
is_marked bits asked = bit_of_words bits (tag_place asked.0 asked.1) == 1

-- with the bit of one more requested tag
abbrev pub with_requested : List ℕ → List ℕ × List ℕ → List ℕ
with_requested bits asked = with_bit bits (tag_place asked.0 asked.1)

-- the bits of all requested tags
abbrev pub requested_bits : List (List ℕ × List ℕ) → List ℕ
requested_bits asked = fold with_requested no_bits asked

-- the bit of each requested tag is among these
abbrev pub may_meet_tags : Find → List ℕ → Bool
may_meet_tags q bits = list_all (is_marked bits) q.tags

abbrev pub may_meet : Find → Outline → Bool
may_meet q o = may_meet_durations q o.times && may_meet_starts q o.times && may_meet_tags q o.tags

-- some start between these bounds may be strictly between those of the window
abbrev pub may_reach : ℤ → ℤ → Times → Bool
may_reach end_ms lookback_ms t = int_lt (pos 1000 *ℤ (end_ms -ℤ lookback_ms)) t.start_max && int_lt t.start_min (pos 1000 *ℤ end_ms)
