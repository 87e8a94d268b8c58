-- Bounds of the starts and durations of an entry's spans.
use Rattle.std.specs.Prelude.{ℤ, pos, negsuc, List, map}
use Rattle.std.specs.List.{fold}
use Rattle.std.specs.Int.{int_min, int_max}
use Rattle.jaeger_model.specs.declared.span.Span.{Span}
use Rattle.trace_model.specs.declared.entry.Entry.{Entry}
use Rattle.trace_model.specs.EntryWork.{spans_brought}
use Rattle.arrival_journal.specs.declared.times.Times.{Times}

-- the greatest and the least number of microseconds
abbrev pub latest : ℤ
latest = pos 9223372036854775807

abbrev pub earliest : ℤ
earliest = negsuc 9223372036854775807

abbrev pub starts : List Span → List ℤ
starts ss = map (λ (s : Span). s.start) ss

abbrev pub durations : List Span → List ℤ
durations ss = map (λ (s : Span). s.duration) ss

-- the least and the greatest start and duration of the spans
abbrev pub times_of : List Span → Times
times_of ss = record {
  start_min = fold int_min latest (starts ss);
  start_max = fold int_max earliest (starts ss);
  duration_min = fold int_min latest (durations ss);
  duration_max = fold int_max earliest (durations ss);
}

-- those with one span more
abbrev pub times_with : Times → Span → Times
times_with t s = record {
  start_min = int_min t.start_min s.start;
  start_max = int_max t.start_max s.start;
  duration_min = int_min t.duration_min s.duration;
  duration_max = int_max t.duration_max s.duration;
}

abbrev pub times_in : Entry → Times
times_in e = times_of (spans_brought e.work)
