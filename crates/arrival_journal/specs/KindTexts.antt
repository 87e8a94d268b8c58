-- The kinds of the first spans of an entry, as texts.
use Rattle.std.specs.Prelude.{ℕ, List, map, take}
use Rattle.jaeger_model.specs.declared.span.Span.{Span}
use Rattle.jaeger_model.specs.Tags.{kind_of}
use Rattle.trace_model.specs.declared.entry.Entry.{Entry}
use Rattle.trace_model.specs.EntryWork.{spans_brought}

-- the kinds of the first of these spans
abbrev pub first_kinds : List Span → List (List ℕ)
first_kinds ss = map kind_of (take 32 ss)

-- those that an entry's record has
abbrev pub kinds_in : Entry → List (List ℕ)
kinds_in e = first_kinds (spans_brought e.work)
