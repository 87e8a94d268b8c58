use Rattle.std.proofs.Common.{◌≡◌, map, take}
use Rattle.serde_json.specs.View.{view}
use Rattle.answer_trees.proofs.tree.trees.Given as goal

abbrev pub invariant-loop-item : goal.invariant-loop-item
invariant-loop-item g l = map view l.trees.items ≡ map g.T.Tree.tree (take l.item-index l.items)
