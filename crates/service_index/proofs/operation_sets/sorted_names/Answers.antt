use Rattle.std.specs.Cmp.Lexicographic.{texts_ties}
use Rattle.trace_model.proofs.NameLaws.{text_total, text_exact}
use Rattle.service_index.proofs.SortedLists.{sorted_once}
use Rattle.service_index.proofs.operation_sets.sorted_names.Goals as goal

pub returns : goal.returns
returns c =
    sorted_once text_total text_exact texts_ties c.args.names.items _ c.dedup.new.self.items c.sort_unstable.ensures.permutation c.sort_unstable.ensures.sorted
    c.dedup.ensures.filtered
