-- What is known of an entry without reading its spans.
use Rattle.std.specs.Prelude.{Bool, true, false, List, [], ◌∷◌, ◌++◌, map}
use Rattle.trace_model.specs.declared.entry.Entry.{Entry}
use Rattle.trace_model.specs.declared.entry.Work.{Work}
use Rattle.trace_model.specs.EntryWork.{spans_brought}
use Rattle.arrival_journal.specs.declared.outline.Outline.{Outline}
use Rattle.arrival_journal.specs.Times.{times_of}
use Rattle.arrival_journal.specs.TagBits.{bits_brought}

-- (proofs unfold it by name, so that the users of a journal never look into it)
unfoldable pub outline_of : Work → Outline
outline_of w = record { times = times_of (spans_brought w); tags = bits_brought w }

abbrev pub outline_in : Entry → Outline
outline_in e = outline_of e.work

-- the outlines of all entries if they are kept, else none
abbrev pub outlines_kept : Bool → List Entry → List Outline
outlines_kept true entries = map outline_in entries
outlines_kept false entries = []

-- the outlines and one more, if they are kept
abbrev pub with_outline : Bool → List Outline → Outline → List Outline
with_outline true outlines o = outlines ++ o ∷ []
with_outline false outlines o = outlines
