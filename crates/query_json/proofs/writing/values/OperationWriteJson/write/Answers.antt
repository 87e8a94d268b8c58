use Rattle.json.specs.Print.{escape_byte}
use Rattle.answer_trees.specs.Trees.{operation_tree}
use Rattle.json_page.proofs.Pages.{◌▸◌, Puts-is}
use Rattle.query_json.proofs.Pages.{put_tree-text}
use Rattle.query_json.proofs.writing.values.OperationWriteJson.write.Goals as goal

pub returns : goal.returns
unfolding escape_byte
returns c =
    Puts-is (c.push_str.ensures ▸ c.push_quoted.ensures ▸ c.push_str-2.ensures ▸ c.push_quoted-2.ensures ▸ c.push_str-3.ensures)
    (rw (c.as_str.ensures, c.as_str-2.ensures.value) (put_tree-text (operation_tree c.args.self.now)))
