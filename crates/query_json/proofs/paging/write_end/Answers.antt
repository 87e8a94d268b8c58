use Rattle.json_page.proofs.Pages.{◌▸◌}
use Rattle.query_json.proofs.paging.write_end.Goals as goal

pub returns : goal.returns
returns c = c.push_str.ensures ▸ c.end_items.ensures
