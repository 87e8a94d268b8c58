use Rattle.std.proofs.Common.{◌≡◌, drop}
use Rattle.std.specs.Slice.Iter.{iter_rest}
use Rattle.std.specs.Cmp.Lexicographic.{slice_cmp}
use Rattle.jaeger_model.specs.ProcessOrder.{tag_cmp}
use Rattle.jaeger_model.proofs.process_order.compare_all_tags.Given as goal

abbrev pub invariant-loop-tag : goal.invariant-loop-tag
invariant-loop-tag l = slice_cmp tag_cmp (drop l.tag-index l.tags) (iter_rest l.others) ≡ slice_cmp tag_cmp l.tags l.fn.others
