use Rattle.std.proofs.Common.{◌≡◌, ◌∙◌, ℕ, List, [], true, false, map, ap, sym, subst}
use Rattle.std.specs.Arc.{arc_value}
use Rattle.std.specs.Global.{Global}
use Rattle.jaeger_model.specs.Texts.{same_text}
use Rattle.trace_model.specs.declared.entry.Entry.{Entry}
use Rattle.service_index.specs.OperationRows.{rows_in}
use Rattle.service_index.specs.KeptNames.{TellOperation}
use Rattle.journal_traces.proofs.RequestedOperation.{any_operation, one_operation}
use Rattle.journal_traces.proofs.requested_numbers.requested_rows.Goals as goal

pub returns-then-eq : goal.returns-then-eq
returns-then-eq c =
    let q = c.args.query.now in
    let h = c.args.store.journal.now.held.entries in
    let names = c.args.store.names.now in
    let asked : same_text q.operation [] ≡ true = sym (c.eq.ensures ∙ ap (λ t. same_text t []) c.as_str-operation.ensures.value) ∙ c.if-eq.true in
    any_operation q h names.numbers.firsts names.operation_rows asked

pub returns : goal.returns
returns c =
    let q = c.args.query.now in
    let h = c.args.store.journal.now.held.entries in
    let names = c.args.store.names.now in
    let asked : same_text q.operation [] ≡ false = sym (c.eq.ensures ∙ ap (λ t. same_text t []) c.as_str-operation.ensures.value) ∙ c.if-eq.false in
    let rows = c.rows_of_operation-rows.result in
    let entries : List Entry = map (arc_value {X = Entry} {Z = Global}) c.entries-entries.result.now in
    let tell : TellOperation h names.operation_rows q.service q.operation (rows_in rows) =
    subst (λ (x : List Entry). TellOperation x names.operation_rows q.service q.operation (rows_in rows)) c.entries-entries.ensures
    (subst (λ (t : List ℕ). TellOperation entries names.operation_rows t q.operation (rows_in rows)) c.as_str-service.ensures.value
    (subst (λ (t : List ℕ). TellOperation entries names.operation_rows c.as_str-service.result.now t (rows_in rows)) c.as_str-operation.ensures.value
    c.rows_of_operation-rows.ensures)) in
    one_operation q h names.numbers.entry_of names.numbers.firsts names.operation_rows rows c.requires.kept.numbers c.requires.kept.all_rows tell asked
