use Rattle.json.proofs.Printed.Plain.{plain_from_lanes}
use Rattle.json_page.proofs.plain.are_plain_at.Goals as goal

pub returns : goal.returns
returns g c = plain_from_lanes c.args.text.now c.args.at g.row.N c.requires.inside c.requires.lanes c.type_inv.text
