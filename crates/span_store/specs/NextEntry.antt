-- The next entry of an owner without seats.
use Rattle.std.specs.Prelude.{◌+◌, length}
use Rattle.jaeger_model.specs.declared.batch.Batch.{Batch}
use Rattle.trace_model.specs.declared.entry.Entry.{Entry}
use Rattle.trace_model.specs.declared.entry.Work.TheVariants as brings
use Rattle.trace_model.specs.LimitedHistories.{LimitedHistory}

-- it is of seat 0, and numbered from 1 in the order of the entries
abbrev pub next_entry : LimitedHistory → Batch → Entry
next_entry held batch = record { seat = 0; number = length held.entries + 1; work = brings.Batch batch }
