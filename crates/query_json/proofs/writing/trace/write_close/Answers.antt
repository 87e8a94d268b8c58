use Rattle.json_page.proofs.Pages.{◌▸◌}
use Rattle.query_json.proofs.writing.trace.write_close.Goals as goal

pub returns : goal.returns
returns c = c.push_str.ensures ▸ c.write_id.ensures ▸ c.push_str-2.ensures ▸ c.push_str-3.ensures ▸ c.push_str-4.ensures
