use Rattle.std.proofs.Common.{◌≡◌, ◌∙◌, ap, get_or, map, sym}
use Rattle.std.specs.Prelude.{None, Some, option_map}
use Rattle.std.proofs.lemmas.List.{get_or-map}
use Rattle.trace_adjust.specs.LentSpans.{placed_as}
use Rattle.trace_adjust.proofs.ExistingSpans.{span_in}
use Rattle.trace_adjust.proofs.lent_spans.lent_at.Goals as goal

pub returns : goal.returns
returns c =
    let ts = c.args.spans.now in
    let i = c.args.index in
    let t = c.index-spans-index.result in
    let here : get_or (map span_in ts) i None ≡ t.span = get_or-map span_in ts i t None c.requires ∙ ap span_in (sym c.index-spans-index.is) in
    ap Some c.lent_as.ensures ∙ ap (option_map (placed_as c.args.raw)) (c.reported.ensures ∙ sym here)
