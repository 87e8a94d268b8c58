use Rattle.std.proofs.Common.{◌≡◌, ◌++◌, map}
use Rattle.trace_model.specs.declared.answer.Operation.{Operation}
use Rattle.std.specs.Vec.Iter.{into_iter_items}
use Rattle.service_index.proofs.operation_sets.names_of_operations.Given as goal

abbrev pub invariant-loop-operation : goal.invariant-loop-operation
invariant-loop-operation l =
    l.names.items ++ map (λ (o : Operation). o.name) (into_iter_items l.operation-iterator) ≡ map (λ (o : Operation). o.name) l.fn.operations.items
