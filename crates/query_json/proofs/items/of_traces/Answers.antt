use Rattle.std.proofs.Common.{◌∙◌, ap, map}
use Rattle.answer_trees.specs.Trees.{trace_tree}
use Rattle.query_json.proofs.Pieces.{trees_of}
use Rattle.query_json.proofs.items.of_traces.Goals as goal

pub returns-clause-trees : goal.returns-clause-trees
returns-clause-trees c =
    trees_of c.in_ok-trace_items.field-0.items ∙ ap (map trace_tree) c.in_ok-trace_items.ensures.spans ∙ ap (map trace_tree) c.into_vec.ensures
