use Rattle.std.proofs.Common.{ap, ◌∙◌}
use Rattle.jaeger_model.specs.Tags.{hex_text}
use Rattle.json_page.proofs.HexIds.{hex_text-number}
use Rattle.json_page.proofs.Pages.{Puts-is}
use Rattle.json_page.proofs.page.Page.push_hex_of_number.Goals as goal

pub returns : goal.returns
returns c = Puts-is c.push_hex_of_eight.ensures (ap hex_text c.to_be_bytes.ensures ∙ hex_text-number c.args.number)
