use Rattle.std.proofs.Common.{◌≡◌, ◌<◌, ◌∷◌, ◌∙◌, [], List, ap, arith, get_or, length, rules, sym}
use Rattle.std.proofs.lemmas.List.{nil_from_length}
use Rattle.std.proofs.lemmas.Option.{get_or_from_slice_get}
use Rattle.serde_json.specs.Data.{string}
use Rattle.serde_json.specs.Written.{compact_text}
use Rattle.jaeger_model.specs.Ids.{trace_text}
use Rattle.trace_model.specs.declared.answer.Shown.{Shown}
use Rattle.answer_trees.specs.Trees.{trace_id_text}
use Rattle.json_page.proofs.Pages.{Puts-is}
use Rattle.query_json.proofs.writing.trace.write_id.Goals as goal

id_of : (ss : List Shown) (s : Shown) → 0 < length ss → get_or ss 0 s ≡ s → trace_text s.placed.span.trace ≡ trace_id_text ss
id_of [] s h is = absurd (omega (arith, h))
id_of (x ∷ ss) s h is = ap (λ (y : Shown). trace_text y.placed.span.trace) (sym is)

pub returns-then-len-eq0 : goal.returns-then-len-eq0
returns-then-len-eq0 c =
    let none : c.args.spans.now ≡ [] = nil_from_length c.args.spans.now (search rules) in
    Puts-is c.push_str.ensures (ap (λ ss. compact_text (string (trace_id_text ss))) (sym none))

pub returns : goal.returns
returns c =
    let ss = c.args.spans.now in
    let s = c.at.result in
    let some : 0 < length ss = omega (arith, c.len.ensures, c.if-len-eq0.false) in
    Puts-is c.write.ensures
    (ap (λ t. compact_text (string (trace_text t))) c.span.ensures.trace
    ∙ ap (λ t. compact_text (string t)) (id_of ss s some (get_or_from_slice_get ss 0 s s c.at.ensures)))
