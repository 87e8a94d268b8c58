use Rattle.std.proofs.Common.{ap, sym}
use Rattle.serde_json.specs.Written.{compact_text}
use Rattle.span_steps.specs.Warnings.{warning_texts}
use Rattle.answer_trees.specs.Trees.{warnings_tree}
use Rattle.json_page.proofs.Pages.{◌▸◌, Puts-is}
use Rattle.query_json.proofs.writing.span.write_warnings.Goals as goal

pub returns-in-Some : goal.returns-in-Some
returns-in-Some c =
    Puts-is (c.push_str.ensures ▸ c.write_warning.ensures ▸ c.push_str-in-Some.ensures)
    (ap (λ o. compact_text (warnings_tree (warning_texts o))) (sym c.in-Some.is))
