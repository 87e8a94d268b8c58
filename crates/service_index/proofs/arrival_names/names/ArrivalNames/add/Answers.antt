use Rattle.std.proofs.Common.{◌≡◌, ◌∙◌, ℕ, ◌<◌, List, map, take, length, sym, subst, arith}
use Rattle.std.specs.Arc.{arc_value}
use Rattle.std.specs.Global.{Global}
use Rattle.std.proofs.lemmas.List.{length-map}
use Rattle.trace_model.specs.declared.entry.Entry.{Entry}
use Rattle.service_index.specs.ListedNames.{listed_cmp}
use Rattle.service_index.specs.Indexes.{Index, listing_by, IsIndexed}
use Rattle.service_index.proofs.MoreNames.{indexed_extends}
use Rattle.jaeger_model.specs.Texts.{sorted_set}
use Rattle.trace_model.specs.Histories.{before_last}
use Rattle.service_index.specs.ArrivalNumbers.{Numbered}
use Rattle.service_index.specs.OperationRows.{AreOperationRows}
use Rattle.service_index.proofs.RowsOfOperations.{rows_extend}
use Rattle.service_index.specs.KeptNames.{KeptNames, AreNamesKept, names_of_arrivals, reports}
use Rattle.service_index.proofs.ArrivalReports.{extends_last, listed_before}
use Rattle.service_index.proofs.arrival_names.names.ArrivalNames.add.Goals as goal

abbrev kept_in : Numbered → Index → List ℕ → KeptNames
kept_in numbers index rows = record { numbers = numbers; index = index; operation_rows = rows }

pub add_arrivals-requires-clause-indexed : goal.add_arrivals-requires-clause-indexed
add_arrivals-requires-clause-indexed c =
    let h : List Entry = map (arc_value {X = Entry} {Z = Global}) c.args.entries.now in
    let l : length h ≡ length c.args.entries.now = length-map c.args.entries.now (arc_value {X = Entry} {Z = Global}) in
    let some : 0 < length h = omega arith in
    let kept : AreNamesKept (before_last h) (kept_in c.self.inside.numbers c.self.inside.index c.self.inside.operation_rows.items) =
    subst (AreNamesKept (before_last h)) (sym c.self.view_is) c.requires.kept in
    subst (λ (x : List Entry). IsIndexed (names_of_arrivals x) c.self.inside.index) (sym c.arrivals-arrivals.ensures)
    (indexed_extends (names_of_arrivals (before_last h)) (names_of_arrivals h) c.self.inside.index (extends_last h some) kept.indexed)

pub add_arrivals-requires-clause-listed : goal.add_arrivals-requires-clause-listed
add_arrivals-requires-clause-listed c =
    let h : List Entry = map (arc_value {X = Entry} {Z = Global}) c.args.entries.now in
    let l : length h ≡ length c.args.entries.now = length-map c.args.entries.now (arc_value {X = Entry} {Z = Global}) in
    let some : 0 < length h = omega arith in
    let kept : AreNamesKept (before_last h) (kept_in c.self.inside.numbers c.self.inside.index c.self.inside.operation_rows.items) =
    subst (AreNamesKept (before_last h)) (sym c.self.view_is) c.requires.kept in
    subst (λ (x : List Entry). listing_by (names_of_arrivals x) c.self.inside.index ≡ sorted_set listed_cmp (take c.used-begin.result (reports x)))
    (sym c.arrivals-arrivals.ensures)
    (listed_before h c.self.inside.index c.used-begin.result some kept.indexed kept.listed (c.used-begin.ensures.used ∙ kept.used))

pub add_arrivals-requires-clause-rises : goal.add_arrivals-requires-clause-rises
add_arrivals-requires-clause-rises c =
    let h : List Entry = map (arc_value {X = Entry} {Z = Global}) c.args.entries.now in
    let l : length h ≡ length c.args.entries.now = length-map c.args.entries.now (arc_value {X = Entry} {Z = Global}) in
    let some : 0 < length h = omega arith in
    let kept : AreNamesKept (before_last h) (kept_in c.self.inside.numbers c.self.inside.index c.self.inside.operation_rows.items) =
    subst (AreNamesKept (before_last h)) (sym c.self.view_is) c.requires.kept in
    let fewer = (extends_last h some).count in
    let used = kept.used in
    let now = c.add.ensures.numbers.as_many in
    omega (arith, c.used-begin.ensures.used, c.len.ensures.numbers)

pub add_arrivals-requires-clause-rows : goal.add_arrivals-requires-clause-rows
add_arrivals-requires-clause-rows c =
    let h : List Entry = map (arc_value {X = Entry} {Z = Global}) c.args.entries.now in
    let l : length h ≡ length c.args.entries.now = length-map c.args.entries.now (arc_value {X = Entry} {Z = Global}) in
    let some : 0 < length h = omega arith in
    let kept : AreNamesKept (before_last h) (kept_in c.self.inside.numbers c.self.inside.index c.self.inside.operation_rows.items) =
    subst (AreNamesKept (before_last h)) (sym c.self.view_is) c.requires.kept in
    let numbers = c.self.inside.index.operations.numbers in
    let rows = c.self.inside.operation_rows.items in
    subst (λ (x : List Entry). AreOperationRows (names_of_arrivals x) numbers rows) (sym c.arrivals-arrivals.ensures)
    (rows_extend (names_of_arrivals (before_last h)) (names_of_arrivals h) numbers rows (extends_last h some)
    (record { held = kept.indexed.operations.numbers.held }) kept.rows)

pub add_arrivals-requires-clause-all_rows : goal.add_arrivals-requires-clause-all_rows
add_arrivals-requires-clause-all_rows c =
    let h : List Entry = map (arc_value {X = Entry} {Z = Global}) c.args.entries.now in
    let kept : AreNamesKept (before_last h) (kept_in c.self.inside.numbers c.self.inside.index c.self.inside.operation_rows.items) =
    subst (AreNamesKept (before_last h)) (sym c.self.view_is) c.requires.kept in
    kept.all_rows ∙ sym (c.used-begin.ensures.used ∙ kept.used)
