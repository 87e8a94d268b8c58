use Rattle.std.proofs.Common.{ap}
use Rattle.std.specs.Fmt.{decimal, digits}
use Rattle.json.specs.Print.{escape_byte}
use Rattle.query_json.proofs.Answers.{error_text}
use Rattle.json_page.proofs.Pages.{◌▸◌, Puts-is}
use Rattle.query_json.proofs.writing.answer.write_error.Goals as goal

pub returns : goal.returns
unfolding escape_byte digits
returns c =
    Puts-is (c.push_str.ensures ▸ Puts-is c.push_unsigned.ensures (ap decimal c.from.ensures) ▸ c.push_str-2.ensures ▸ c.push_quoted.ensures ▸
    c.push_str-3.ensures)
    (error_text c.args.code c.args.msg.now)
