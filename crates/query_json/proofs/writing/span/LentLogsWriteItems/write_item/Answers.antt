use Rattle.std.proofs.Common.{ap}
use Rattle.serde_json.specs.Written.{compact_text}
use Rattle.trace_adjust.specs.LentSpans.{lent_log}
use Rattle.answer_trees.specs.Trees.{log_tree}
use Rattle.json_page.proofs.Pages.{Puts-is}
use Rattle.query_json.proofs.Pages.{tree_at}
use Rattle.query_json.proofs.writing.span.LentLogsWriteItems.write_item.Goals as goal

pub returns : goal.returns
returns c = Puts-is c.write.ensures (ap compact_text (tree_at log_tree c.args.self.now c.args.index (lent_log c.log.result) c.requires c.log.ensures))
