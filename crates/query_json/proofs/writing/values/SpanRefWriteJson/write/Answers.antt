use Rattle.json.specs.Print.{escape_byte}
use Rattle.answer_trees.specs.Trees.{reference_tree}
use Rattle.json_page.proofs.Pages.{◌▸◌, Puts-is}
use Rattle.query_json.proofs.Pages.{put_tree-text}
use Rattle.query_json.proofs.writing.values.SpanRefWriteJson.write.Goals as goal

pub returns : goal.returns
unfolding escape_byte
returns c =
    Puts-is (Puts-is c.push_str.ensures c.reference_start.ensures ▸ c.write.ensures ▸ c.push_str-2.ensures ▸ c.write-2.ensures ▸ c.push_str-3.ensures)
    (put_tree-text (reference_tree c.args.self.now))
