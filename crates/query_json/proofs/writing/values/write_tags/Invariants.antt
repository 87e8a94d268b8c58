use Rattle.std.proofs.Common.{map, drop}
use Rattle.serde_json.specs.Written.{compact_text}
use Rattle.answer_trees.specs.Trees.{list, tag_tree}
use Rattle.query_json.proofs.TagTexts.{Opened}
use Rattle.query_json.proofs.writing.values.write_tags.Given as goal

abbrev pub invariant-loop-index : goal.invariant-loop-index
invariant-loop-index l = Opened l.fn.out l.out (drop l.index l.tags) (compact_text (list (map tag_tree l.tags)))
