use Rattle.trace_model.proofs.NameLaws.{operation_total, operation_exact}
use Rattle.service_index.proofs.KnownNames.{same_operation_by_cmp}
use Rattle.service_index.proofs.SortedLists.{sorted_once}
use Rattle.service_index.proofs.operation_sets.sorted_operations.Goals as goal

pub returns : goal.returns
returns c =
    sorted_once operation_total operation_exact same_operation_by_cmp c.args.operations.items _ c.dedup.new.self.items c.sort_unstable.ensures.permutation
    c.sort_unstable.ensures.sorted c.dedup.ensures.filtered
