use Rattle.std.proofs.Common.{◌≡◌, ◌≤◌, vec_capacity}
use Rattle.service_index.proofs.NumbersOfEntry.{Filled}
use Rattle.service_index.proofs.arrival_names.numbers.ArrivalNumbers.add.Given as goal

abbrev pub invariant-loop-span : goal.invariant-loop-span
invariant-loop-span l =
    Filled l.initial.self-inside.entry_of.items l.entry_index l._span-index l.self-inside.entry_of.items
    × (l.self-inside.spans ≤ vec_capacity l.self-inside.entry_of)
    × (l.self-inside.firsts ≡ l.initial.self-inside.firsts) × (l.self-inside.kinds ≡ l.initial.self-inside.kinds)
    × (l.self-inside.batches ≡ l.initial.self-inside.batches) × (l.self-inside.spans ≡ l.initial.self-inside.spans)
