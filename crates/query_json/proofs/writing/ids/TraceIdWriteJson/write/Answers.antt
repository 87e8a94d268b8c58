use Rattle.std.proofs.Common.{◌∷◌, ◌++◌, ◌∙◌, [], ℕ, List, ap, sym}
use Rattle.json_page.proofs.Escapes.{escape_trace_text}
use Rattle.json_page.proofs.HexIds.{long_text, short_text}
use Rattle.json_page.proofs.Pages.{Puts-is}
use Rattle.query_json.proofs.writing.ids.TraceIdWriteJson.write.Goals as goal

pub returns-then-self-eq0 : goal.returns-then-self-eq0
returns-then-self-eq0 c =
    let t = c.args.self.now in
    Puts-is c.push_quoted_hex.ensures (ap (λ (ds : List ℕ). 34 ∷ (ds ++ 34 ∷ [])) (short_text t c.if-self-eq0.true ∙ sym (escape_trace_text t)))

pub returns : goal.returns
returns c =
    let t = c.args.self.now in
    Puts-is c.write_both.ensures (ap (λ (ds : List ℕ). 34 ∷ (ds ++ 34 ∷ [])) (long_text t c.if-self-eq0.false ∙ sym (escape_trace_text t)))
