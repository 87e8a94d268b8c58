use Rattle.std.proofs.Common.{◌≡◌, ◌≤◌, length, take, vec_capacity}
use Rattle.jaeger_model.specs.Texts.{sorted_set}
use Rattle.service_index.specs.ListedNames.{listed_cmp}
use Rattle.service_index.specs.Indexes.{listing_by, IsIndexed}
use Rattle.service_index.specs.OperationRows.{AreOperationRows}
use Rattle.service_index.specs.KeptNames.{names_of_arrivals, reports}
use Rattle.service_index.proofs.arrival_names.names.add_arrivals.Given as goal

abbrev pub invariant-loop-n : goal.invariant-loop-n
invariant-loop-n l =
    IsIndexed (names_of_arrivals l.arrivals) l.index
    × (listing_by (names_of_arrivals l.arrivals) l.index ≡ sorted_set listed_cmp (take l.n (reports l.arrivals)))
    × (l.index.used ≡ l.n) × (l.index.room ≡ l.initial.index.room) × (l.n ≤ l.end)
    × AreOperationRows (names_of_arrivals l.arrivals) l.index.operations.numbers l.rows.items
    × (length l.rows.items ≡ l.n) × (vec_capacity l.rows ≡ vec_capacity l.initial.rows)
