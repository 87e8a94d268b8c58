use Rattle.std.proofs.Common.{◌≡◌, ◌∙◌, IfOk, ap, false, map, subst, sym}
use Rattle.trace_model.specs.Adjusting.{adjusted, shown_as, with_parent_first}
use Rattle.trace_model.specs.KeptTraces.{kept_value}
use Rattle.trace_model.specs.TakenSpans.{placed_taken}
use Rattle.trace_adjust.specs.LentSpans.{placed_as, shifted_all}
use Rattle.trace_adjust.proofs.Deltas.{lent_raw}
use Rattle.trace_adjust.proofs.lending.shown_deltas.Goals as goal

pub returns-then-trace : goal.returns-then-trace
returns-then-trace c =
    let t = c.args.trace.now in
    let spans = placed_taken t.spans.items in
    (λ i. shifted_all t.max_skew (c.new.ensures.items i) (map (placed_as (c.if-trace.true i)) spans))
    ∙ lent_raw t.max_skew spans ∙ ap (λ raw. shown_as t.max_skew raw spans) (sym c.if-trace.true)

pub deltas_of-requires-clause-lent : goal.deltas_of-requires-clause-lent
deltas_of-requires-clause-lent c =
    c.deref-2.ensures.value ∙ c.in_ok-lent.ensures ∙ ap (λ ks. map with_parent_first (placed_taken ks)) c.deref.ensures.value

pub returns : goal.returns
returns c =
    let t = c.args.trace.now in
    let m = t.max_skew in
    let r = c.deltas_of.result in
    let spans = placed_taken t.spans.items in
    let raw : t.raw ≡ false = c.if-trace.false in
    let lent : c.deref-2.result.now ≡ map (placed_as t.raw) spans =
    c.deref-2.ensures.value ∙ c.in_ok-lent.ensures ∙ ap (λ ks. map with_parent_first (placed_taken ks)) c.deref.ensures.value
    ∙ ap (λ b. map (placed_as b) spans) (sym raw) in
    let shown : adjusted m spans ≡ kept_value t = ap (λ b. shown_as m b spans) (sym raw) in
    subst (λ ss. IfOk r (λ v. shifted_all m v.items (map (placed_as t.raw) spans) ≡ ss)) shown
    (subst (λ ps. IfOk r (λ v. shifted_all m v.items ps ≡ adjusted m spans)) lent c.deltas_of.ensures)
