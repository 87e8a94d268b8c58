use Rattle.std.proofs.Common.{◌≡◌, length, map, take}
use Rattle.jaeger_model.specs.declared.kind.TheConstants.Kind.{ALL}
use Rattle.jaeger_model.specs.Kinds.{kind_text}
use Rattle.service_index.specs.Labels.{operation_label, operation_labels}
use Rattle.service_index.specs.Probes.{row_of}
use Rattle.service_index.proofs.index.ServiceIndex.rows_of_operation.Given as goal

-- the rows of the kinds so far
abbrev pub invariant-loop-index : goal.invariant-loop-index
invariant-loop-index g l =
    (length l.rows ≡ 6)
    × (take l.index l.rows ≡ map (λ kind. row_of (operation_labels (g.T.Texts.names l.texts)) l.self.operations.numbers
    (operation_label l.service_number l.operation (kind_text kind))) (take l.index ALL))
