use Rattle.std.proofs.Common.{ap}
use Rattle.json.specs.Print.{escape}
use Rattle.json_page.proofs.Escapes.{IsUtf8-escape}
use Rattle.json_page.proofs.Pages.{Adds-is}
use Rattle.json_page.proofs.page.Page.push_escaped.Goals as goal

pub returns : goal.returns
returns c = record { adds = Adds-is c.add_escaped.ensures (ap escape c.as_bytes.ensures.value); utf8 = IsUtf8-escape c.args.text.now c.utf8.text }
