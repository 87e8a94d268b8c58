use Rattle.std.proofs.Common.{ap}
use Rattle.serde_json.specs.Written.{compact_text}
use Rattle.answer_trees.specs.Trees.{reference_tree}
use Rattle.json_page.proofs.Pages.{Puts-is}
use Rattle.query_json.proofs.Pages.{tree_at}
use Rattle.query_json.proofs.writing.span.ReferencesWriteItems.write_item.Goals as goal

pub returns : goal.returns
returns c =
    let references = c.args.self.now.0.now.placed.span.references in
    Puts-is c.write.ensures (ap compact_text (tree_at reference_tree references c.args.index c.reference.result c.requires c.reference.ensures))
