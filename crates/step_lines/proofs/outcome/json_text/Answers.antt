use Rattle.std.proofs.Common.{◌≡◌, ◌∙◌, false, ap}
use Rattle.serde_json.specs.View.{view}
use Rattle.serde_json.specs.Written.{compact_text, has_float}
use Rattle.answer_trees.specs.Trees.{answer_tree}
use Rattle.step_lines.proofs.outcome.json_text.Goals as goal

pub returns : goal.returns
returns c =
    let tree : view c.in_ok-tree.tree ≡ answer_tree c.args.answer.now = c.in_ok-tree.ensures in
    let none : has_float (view c.in_ok-tree.tree) ≡ false = ap has_float tree ∙ c.trees_have_no_float.ensures.answers c.args.answer.now in
    c.in_ok-text.ensures.text none ∙ ap compact_text tree
