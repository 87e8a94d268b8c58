use Rattle.json_page.proofs.Pages.{◌▸◌}
use Rattle.query_json.proofs.writing.ids.write_both.Goals as goal

pub returns : goal.returns
returns c = c.push_str.ensures ▸ c.push_hex_of_number.ensures ▸ c.push_hex_of_number-2.ensures ▸ c.push_str-2.ensures
