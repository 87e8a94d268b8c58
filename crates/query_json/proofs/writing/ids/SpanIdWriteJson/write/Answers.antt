use Rattle.std.proofs.Common.{◌∷◌, ◌++◌, [], ℕ, List, ap, sym}
use Rattle.jaeger_model.specs.Ids.{span_text}
use Rattle.json_page.proofs.Escapes.{escape_low_digits}
use Rattle.json_page.proofs.Pages.{Puts-is}
use Rattle.query_json.proofs.writing.ids.SpanIdWriteJson.write.Goals as goal

pub returns : goal.returns
unfolding span_text
returns c = Puts-is c.push_quoted_hex.ensures (ap (λ (t : List ℕ). 34 ∷ (t ++ 34 ∷ [])) (sym (escape_low_digits 16 c.args.self.now.0)))
