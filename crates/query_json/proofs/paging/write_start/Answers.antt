use Rattle.json_page.proofs.Pages.{◌▸◌}
use Rattle.query_json.proofs.paging.write_start.Goals as goal

pub returns : goal.returns
returns c = c.begin_items.ensures ▸ c.push_str.ensures
