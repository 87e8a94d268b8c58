use Rattle.std.proofs.Common.{◌≤◌, ◌∙◌, ℕ, List, map, sym, ap, subst}
use Rattle.std.proofs.lemmas.List.{take_all}
use Rattle.jaeger_model.specs.declared.kind.Kind.{Kind}
use Rattle.jaeger_model.specs.declared.kind.Kind.TheVariants.{Unset}
use Rattle.jaeger_model.specs.declared.kind.TheConstants.Kind.{ALL}
use Rattle.jaeger_model.specs.Kinds.{kind_text}
use Rattle.service_index.specs.Labels.{operation_label, operation_labels}
use Rattle.service_index.specs.Probes.{row_of}
use Rattle.service_index.proofs.RowsOfOperations.{row_stored}
use Rattle.service_index.proofs.index.ServiceIndex.rows_of_operation.Goals as goal

pub loop-index-preserved : goal.loop-index-preserved
loop-index-preserved g c =
    let labels = operation_labels (g.T.Texts.names c.args.texts.now) in
    let row : List ℕ → ℕ = λ kind. row_of labels c.args.self.now.operations.numbers (operation_label c.args.service_number c.args.operation.now kind) in
    row_stored (λ (kind : Kind). row (kind_text kind)) ALL c.loop-index.rows c.loop-index.index c.row_of_operation.result Unset
    c.loop-index-test.true (c.row_of_operation.ensures ∙ ap row c.text.ensures) c.loop-index.invariant

pub returns : goal.returns
returns g c =
    let labels = operation_labels (g.T.Texts.names c.args.texts.now) in
    let row : List ℕ → ℕ = λ kind. row_of labels c.args.self.now.operations.numbers (operation_label c.args.service_number c.args.operation.now kind) in
    let so_far = c.loop-index.invariant in
    let all = c.loop-index-test.false in
    sym (take_all c.loop-index.index c.loop-index.rows (subst (λ (n : ℕ). n ≤ c.loop-index.index) (sym so_far.0) all))
    ∙ so_far.1 ∙ ap (map (λ (kind : Kind). row (kind_text kind))) (take_all c.loop-index.index ALL all)
