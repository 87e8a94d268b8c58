use Rattle.std.proofs.Common.{◌∙◌, ◌∷◌, ◌++◌, [], List, ℕ, ap, arith, length-append, subst}
use Rattle.std.specs.Str.{IsUtf8}
use Rattle.std.proofs.lemmas.Str.{IsUtf8-from_ascii}
use Rattle.jaeger_model.specs.Ids.{low_digits}
use Rattle.jaeger_model.specs.Tags.{hex_text}
use Rattle.json_page.proofs.HexIds.{hex_text-number, length-low_digits, quoted_low_digits}
use Rattle.json_page.proofs.Pages.{Adds-is}
use Rattle.json_page.proofs.page.Page.push_quoted_hex.Goals as goal

pub returns-then-is_full : goal.returns-then-is_full
returns-then-is_full c =
    let digits : List ℕ = low_digits 16 c.args.number in
    record {
      adds = c.skip.ensures (34 ∷ (digits ++ 34 ∷ [])) (omega (arith, length-append digits (34 ∷ []), length-low_digits 16 c.args.number));
      utf8 = quoted_low_digits 16 c.args.number;
    }

pub returns : goal.returns
returns c =
    let made = c.quoted_hex.ensures in
    let same = made.digits ∙ ap (λ (ds : List ℕ). 34 ∷ (ds ++ 34 ∷ [])) (ap hex_text c.to_be_bytes.ensures ∙ hex_text-number c.args.number) in
    record { adds = Adds-is c.add.ensures same; utf8 = subst IsUtf8 same (IsUtf8-from_ascii c.quoted_hex.result made.ascii) }
