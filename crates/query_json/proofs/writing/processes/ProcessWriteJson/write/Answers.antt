use Rattle.json.specs.Print.{escape_byte}
use Rattle.answer_trees.specs.Trees.{process_tree}
use Rattle.json_page.proofs.Pages.{◌▸◌, Puts-is}
use Rattle.query_json.proofs.Pages.{put_tree-text}
use Rattle.query_json.proofs.writing.processes.ProcessWriteJson.write.Goals as goal

pub returns : goal.returns
unfolding escape_byte
returns c =
    Puts-is (c.push_str.ensures ▸ c.push_quoted.ensures ▸ c.push_str-2.ensures ▸ c.write_tags.ensures ▸ c.push_str-3.ensures)
    (rw (c.as_str.ensures.value, c.as_slice.ensures) (put_tree-text (process_tree c.args.self.now)))
