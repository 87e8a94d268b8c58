use Rattle.std.proofs.Common.{◌∙◌, subst}
use Rattle.trace_adjust.specs.SpanDeltas.{IsZeroWhere}
use Rattle.trace_adjust.specs.KnownDeltas.{deltas_in}
use Rattle.trace_adjust.proofs.Deltas.{deltas_are, zero_in}
use Rattle.trace_adjust.proofs.span_deltas.all_deltas.Goals as goal

pub returns : goal.returns
returns c =
    let marks = c.in_ok-places.places.repeated.items in
    let ks = c.in_ok-deltas.deltas in
    let zeros = subst (λ bs. IsZeroWhere bs c.into_deltas.result.items c.without_repeated.result.items) c.deref-2.ensures.value c.without_repeated.ensures in
    deltas_are c.args.max_skew c.args.trace.now (deltas_in ks) marks c.into_deltas.result.items c.without_repeated.result.items c.in_ok-deltas.ensures
    c.in_ok-places.ensures.repeated (c.into_deltas.ensures ∙ zero_in ks) zeros
