use Rattle.std.proofs.Common.{map, drop}
use Rattle.serde_json.specs.Data.{Data}
use Rattle.serde_json.specs.Written.{compact_text}
use Rattle.answer_trees.specs.Trees.{list}
use Rattle.query_json.proofs.Pages.{Going}
use Rattle.query_json.proofs.writing.write_list.Given as goal

abbrev pub invariant-loop-index : goal.invariant-loop-index
invariant-loop-index g l =
    let ds = g.L.WriteItems.trees l.items in
    Going compact_text 93 l.fn.out l.out (drop l.index ds) (compact_text (list (map (λ (d : Data). d) ds)))
