use Rattle.std.proofs.Common.{◌≡◌, [], ◌∷◌, subst, sym, arith}
use Rattle.std.specs.Str.{IsAscii}
use Rattle.hex.specs.Hex.{encode_lower}
use Rattle.jaeger_model.specs.Tags.{hex_text}
use Rattle.jaeger_model.proofs.Digits.{encoded}
use Rattle.json_page.proofs.Escapes.{IsAscii-hex_text, small_byte}
use Rattle.json_page.proofs.page.hex_of_byte.Goals as goal

pub returns-clause-digits : goal.returns-clause-digits
returns-clause-digits c =
    let b = c.args.byte in
    let same : encode_lower (b ∷ []) ≡ hex_text (b ∷ []) = encoded (b ∷ []) (small_byte b (omega (arith, c.ranges.byte))) in
    grind (arith, same)

pub returns-clause-ascii : goal.returns-clause-ascii
returns-clause-ascii c =
    let b = c.args.byte in
    subst IsAscii (sym (returns-clause-digits c)) (IsAscii-hex_text (b ∷ []) (small_byte b (omega (arith, c.ranges.byte))))
