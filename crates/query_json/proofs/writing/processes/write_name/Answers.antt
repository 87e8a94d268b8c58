use Rattle.std.proofs.Common.{◌∷◌, ◌++◌, ◌∙◌, [], ℕ, List, ap, sym}
use Rattle.std.specs.Fmt.{decimal}
use Rattle.json.specs.Print.{escape_byte}
use Rattle.json_page.proofs.Escapes.{escape_decimal}
use Rattle.json_page.proofs.Pages.{◌▸◌, Puts-is}
use Rattle.query_json.proofs.writing.processes.write_name.Goals as goal

pub returns : goal.returns
unfolding escape_byte
returns c =
    Puts-is (c.push_str.ensures ▸ c.push_unsigned.ensures ▸ c.push_str-2.ensures)
    (ap (λ (t : List ℕ). 34 ∷ 112 ∷ (t ++ 34 ∷ [])) (ap decimal c.from.ensures ∙ sym (escape_decimal c.args.number)))
