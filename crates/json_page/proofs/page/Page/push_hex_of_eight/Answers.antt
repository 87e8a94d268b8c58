use Rattle.std.proofs.Common.{◌≡◌, ◌∙◌, ◌*◌, ap, length, rules, subst}
use Rattle.std.specs.Str.{IsUtf8}
use Rattle.std.proofs.lemmas.Str.{IsUtf8-from_ascii}
use Rattle.jaeger_model.specs.Tags.{hex_text}
use Rattle.json_page.proofs.Escapes.{IsAscii-hex_text, length-hex_text}
use Rattle.json_page.proofs.Pages.{Adds-is}
use Rattle.json_page.proofs.page.Page.push_hex_of_eight.Goals as goal

pub returns-then-is_full : goal.returns-then-is_full
returns-then-is_full c =
    let bytes = c.args.bytes.now in
    let eight : length bytes ≡ 8 = search rules in
    record {
      adds = c.skip.ensures (hex_text bytes) (length-hex_text bytes ∙ ap (λ n. 2 * n) eight);
      utf8 = IsUtf8-from_ascii (hex_text bytes) (IsAscii-hex_text bytes c.fits-bytes);
    }

pub returns : goal.returns
returns c =
    let made = c.hex_of_eight.ensures in
    record { adds = Adds-is c.add.ensures made.digits; utf8 = subst IsUtf8 made.digits (IsUtf8-from_ascii c.hex_of_eight.result made.ascii) }
