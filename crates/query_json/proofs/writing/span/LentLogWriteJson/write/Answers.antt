use Rattle.std.proofs.Common.{sym}
use Rattle.json.specs.Print.{escape_byte}
use Rattle.trace_adjust.specs.LentSpans.{lent_log}
use Rattle.answer_trees.specs.Trees.{log_tree}
use Rattle.query_json.proofs.IntegerTexts.{integer_text}
use Rattle.json_page.proofs.Pages.{◌▸◌, Puts-is}
use Rattle.query_json.proofs.Pages.{put_tree-text}
use Rattle.query_json.proofs.writing.span.LentLogWriteJson.write.Goals as goal

pub returns : goal.returns
unfolding escape_byte
returns c =
    Puts-is (c.push_str.ensures ▸ c.write_tags.ensures ▸ c.push_str-2.ensures ▸ Puts-is c.push_signed_ref.ensures (sym (integer_text c.args.self.now.at))
    ▸ c.push_str-3.ensures)
    (put_tree-text (log_tree (lent_log c.args.self.now)))
