use Rattle.json_page.proofs.Pages.{◌▸◌}
use Rattle.query_json.proofs.writing.answer.end_items.Goals as goal

pub returns : goal.returns
returns c = c.push_str.ensures ▸ c.push_unsigned.ensures ▸ c.push_str-2.ensures
