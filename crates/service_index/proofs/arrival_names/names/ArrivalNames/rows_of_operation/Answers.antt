use Rattle.std.proofs.Common.{◌≡◌, ◌∙◌, ◌<◌, ℕ, true, List, map, length, ap, sym, subst}
use Rattle.std.specs.Prelude.{◌==◌}
use Rattle.std.specs.Arc.{arc_value}
use Rattle.std.specs.Global.{Global}
use Rattle.jaeger_model.specs.Texts.{same_text}
use Rattle.trace_model.specs.declared.entry.Entry.{Entry}
use Rattle.trace_model.specs.Histories.{arrivals}
use Rattle.service_index.specs.Labels.{IsServiceNumberOf, operation_labels}
use Rattle.service_index.specs.OperationRows.{rows_of_kinds}
use Rattle.service_index.specs.KeptNames.{KeptNames, TellOperation, names_of_arrivals, reported_at}
use Rattle.service_index.proofs.RowsOfOperations.{number_asked, rows_tell}
use Rattle.service_index.proofs.arrival_names.names.ArrivalNames.rows_of_operation.Goals as goal

pub returns : goal.returns
returns c =
    let h : List Entry = map (arc_value {X = Entry} {Z = Global}) c.args.entries.now in
    let names = names_of_arrivals h in
    let s = c.args.service.now in
    let o = c.args.operation.now in
    let numbers = c.args.self.now.index.operations.numbers in
    let kept = c.requires.kept in
    let found = subst (λ (x : List Entry). IsServiceNumberOf (names_of_arrivals x) s c.service_number_of.result) c.arrivals-arrivals.ensures
    c.service_number_of.ensures in
    let number : (n : ℕ) → n < length (arrivals h) → same_text s (reported_at h n).service ≡ true
    → (c.unwrap_or-service_number.result == names.service_number n) ≡ true = λ n below own.
    ap (λ (k : ℕ). k == names.service_number n) c.unwrap_or-service_number.ensures ∙ number_asked names s c.service_number_of.result n found below own in
    let rows = c.rows_of_operation.ensures
    ∙ ap (λ (x : List Entry). rows_of_kinds (operation_labels (names_of_arrivals x)) c.self.inside.index.operations.numbers c.unwrap_or-service_number.result o)
    c.arrivals-arrivals.ensures
    ∙ ap (λ (v : KeptNames). rows_of_kinds (operation_labels names) v.index.operations.numbers c.unwrap_or-service_number.result o) c.self.view_is in
    subst (TellOperation h c.args.self.now.operation_rows s o) (sym rows)
    (rows_tell h numbers c.args.self.now.operation_rows c.unwrap_or-service_number.result s o kept.rows kept.all_rows number)
