use Rattle.std.proofs.Common.{◌≡◌, ◌∙◌, false, ap}
use Rattle.serde_json.specs.View.{view}
use Rattle.serde_json.specs.Written.{compact_text, has_float}
use Rattle.answer_trees.specs.Trees.{trace_tree}
use Rattle.answer_trees.proofs.NoFloat.{trace_no}
use Rattle.query_json.proofs.writing.trace.CopiedTrace.new.Goals as goal

pub returns-clause-text : goal.returns-clause-text
returns-clause-text c =
    let tree : view c.in_ok-to_json.field-0 ≡ trace_tree c.args.copied.now = c.in_ok-to_json.ensures in
    let none : has_float (view c.in_ok-to_json.field-0) ≡ false = ap has_float tree ∙ trace_no c.args.copied.now in
    c.in_ok-text.ensures.text none ∙ ap compact_text tree
