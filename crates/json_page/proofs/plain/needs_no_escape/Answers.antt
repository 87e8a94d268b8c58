use Rattle.json.proofs.Printed.Plain.{escape_on_plain}
use Rattle.json_page.proofs.plain.needs_no_escape.Goals as goal

pub returns-then-text-lt16 : goal.returns-then-text-lt16
returns-then-text-lt16 c = escape_on_plain c.are_plain.result c.args.text.now c.are_plain.ensures

pub returns-else-text-lt16 : goal.returns-else-text-lt16
returns-else-text-lt16 c = escape_on_plain c.are_plain_many.result c.args.text.now c.are_plain_many.ensures
