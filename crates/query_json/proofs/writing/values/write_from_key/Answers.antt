use Rattle.std.proofs.Common.{ap, sym, append_assoc}
use Rattle.json.specs.Print.{escape}
use Rattle.query_json.specs.Tags.{after_tag, behind_key}
use Rattle.json_page.proofs.Pages.{◌▸◌, Puts-is}
use Rattle.query_json.proofs.writing.values.write_from_key.Goals as goal

pub returns : goal.returns
returns c =
    let tag = c.args.tag.now in
    Puts-is (Puts-is c.push_escaped.ensures (ap escape c.as_str.ensures.value) ▸ c.write_typed.ensures)
    (sym (append_assoc (escape tag.key) (behind_key tag.value) (after_tag c.args.after)))
