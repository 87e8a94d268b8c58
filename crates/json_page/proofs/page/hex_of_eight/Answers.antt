use Rattle.std.proofs.Common.{◌≡◌, subst, sym, arith}
use Rattle.std.specs.Str.{IsAscii}
use Rattle.hex.specs.Hex.{encode_lower}
use Rattle.jaeger_model.specs.Tags.{hex_text}
use Rattle.jaeger_model.proofs.Digits.{encoded}
use Rattle.json_page.proofs.Escapes.{IsAscii-hex_text}
use Rattle.json_page.proofs.page.hex_of_eight.Goals as goal

pub returns-clause-digits : goal.returns-clause-digits
returns-clause-digits c =
    let same : encode_lower c.args.bytes.now ≡ hex_text c.args.bytes.now = encoded c.args.bytes.now c.fits-bytes in
    grind (arith, same)

pub returns-clause-ascii : goal.returns-clause-ascii
returns-clause-ascii c = subst IsAscii (sym (returns-clause-digits c)) (IsAscii-hex_text c.args.bytes.now c.fits-bytes)
