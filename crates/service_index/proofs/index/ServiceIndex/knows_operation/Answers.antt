use Rattle.std.proofs.Common.{◌≡◌, ℕ, List, nat_lt, length, ap, ◌∙◌}
use Rattle.std.specs.List.{list_any}
use Rattle.service_index.specs.Indexes.{Index, has_operation, listing_by}
use Rattle.service_index.specs.Labels.{operation_label, operation_labels}
use Rattle.service_index.specs.OperationRows.{all_kinds}
use Rattle.service_index.specs.Probes.{row_of}
use Rattle.service_index.proofs.KnownNames.{any_agree}
use Rattle.service_index.proofs.LinkedOperations.{name_known}
use Rattle.service_index.proofs.RowsOfOperations.{any_mapped}
use Rattle.service_index.proofs.index.ServiceIndex.knows_operation.Goals as goal

pub returns : goal.returns
returns g c service is =
    let names = g.T.Texts.names c.args.texts.now in
    let index : Index = c.args.self.now in
    let numbers = index.operations.numbers in
    let operation = c.args.operation.now in
    let row : List ℕ → ℕ = λ kind. row_of (operation_labels names) numbers (operation_label c.args.service_number operation kind) in
    let rows : c.rows.result ≡ length numbers =
    c.rows.ensures ∙ c.self.invariant.1.earlier_links ∙ ap (λ (i : Index). length i.operations.numbers) c.self.view_is in
    c.has_row_below.ensures
    ∙ (λ i. list_any (λ (r : ℕ). nat_lt r (rows i)) (c.rows_of_operation-of_kinds.ensures i))
    ∙ any_mapped (λ (r : ℕ). nat_lt r (length numbers)) row all_kinds
    ∙ any_agree (λ (kind : List ℕ). nat_lt (row kind) (length numbers)) (λ (kind : List ℕ). has_operation service operation kind (listing_by names index))
    (λ kind. name_known names index (record { service = service; operation = record { name = operation; kind = kind } }) c.args.service_number c.requires is)
    all_kinds
