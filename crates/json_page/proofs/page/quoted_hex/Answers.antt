use Rattle.std.proofs.Common.{◌≡◌, ℕ, List, ◌∷◌, ◌++◌, [], ap, subst, sym, arith}
use Rattle.std.specs.Str.{IsAscii}
use Rattle.std.proofs.lemmas.Str.Ascii.{IsAscii-cons, IsAscii-push}
use Rattle.hex.specs.Hex.{encode_lower}
use Rattle.jaeger_model.specs.Tags.{hex_text}
use Rattle.jaeger_model.proofs.Digits.{encoded}
use Rattle.json_page.proofs.Escapes.{IsAscii-hex_text}
use Rattle.json_page.proofs.page.quoted_hex.Goals as goal

pub returns-clause-digits : goal.returns-clause-digits
returns-clause-digits c =
    let same : encode_lower c.args.bytes.now ≡ hex_text c.args.bytes.now = encoded c.args.bytes.now c.fits-bytes in
    let written : c.encode_to_slice.new.output ≡ hex_text c.args.bytes.now = grind (arith, same) in
    ap (λ (digits : List ℕ). 34 ∷ (digits ++ 34 ∷ [])) written

pub returns-clause-ascii : goal.returns-clause-ascii
returns-clause-ascii c =
    let digits = hex_text c.args.bytes.now in
    let ascii : IsAscii digits = IsAscii-hex_text c.args.bytes.now c.fits-bytes in
    let closed : IsAscii (digits ++ 34 ∷ []) = IsAscii-push digits 34 ascii (omega arith) in
    subst IsAscii (sym (returns-clause-digits c)) (IsAscii-cons 34 (digits ++ 34 ∷ []) (omega arith) closed)
