use Rattle.std.proofs.Common.{◌≡◌, map, take}
use Rattle.serde_json.specs.View.{view}
use Rattle.answer_trees.specs.Trees.{processes_of, span_tree}
use Rattle.answer_trees.proofs.trace.spans_json.Given as goal

abbrev pub invariant-loop-index : goal.invariant-loop-index
invariant-loop-index l = map view l.trees.items ≡ map (span_tree (processes_of l.spans)) (take l.index l.spans)
