use Rattle.std.proofs.Common.{◌≡◌, ◌<◌, ◌∙◌, Some, pos, ap, arith, get_or, length, map, rules, sym}
use Rattle.std.specs.Prelude.{None, option_map}
use Rattle.std.specs.Int.{w128}
use mir.Val.{SFits}
use Rattle.std.proofs.lemmas.Int.{to_z-of_z}
use Rattle.std.proofs.lemmas.List.{length-map}
use Rattle.trace_model.specs.Adjusting.{shifted}
use Rattle.trace_model.specs.TakenSpans.{placed_taken}
use Rattle.trace_adjust.specs.LentSpans.{placed_as}
use Rattle.trace_adjust.proofs.Deltas.{length_shifted, shifted_at}
use Rattle.trace_adjust.proofs.ExistingSpans.{lent_there, span_in, there_count}
use Rattle.trace_adjust.proofs.lent_spans.span_at.Goals as goal

pub lent_at-placed-requires : goal.lent_at-placed-requires
lent_at-placed-requires c =
    let s = c.args.trace.now in
    let ps = placed_taken s.spans.items in
    omega (
      arith,
      c.requires.index,
      ap length c.deref.ensures.value,
      length-map ps (placed_as s.raw),
      length_shifted s.max_skew c.args.deltas.now (map (placed_as s.raw) ps),
      there_count s.spans.items c.requires.there,
    )

pub returns : goal.returns
returns c =
    let s = c.args.trace.now in
    let m = s.max_skew in
    let deltas = c.args.deltas.now in
    let i = c.args.index in
    let ts = s.spans.items in
    let ps = map (placed_as s.raw) (placed_taken ts) in
    let p = c.lent_at-placed.result in
    let delta = c.delta_at-delta.result in
    let fits : SFits w128 delta = search rules in
    let shown : c.shifted.result ≡ shifted m delta p = rw (to_z-of_z w128 delta fits) at c.shifted.ensures in
    let first : delta ≡ get_or deltas i (pos 0) = c.delta_at-delta.ensures in
    let within : i < length ps = omega (arith, c.requires.index, length_shifted m deltas ps) in
    let there : i < length ts = omega (arith, within, length-map (placed_taken ts) (placed_as s.raw), there_count ts c.requires.there) in
    let here : p ≡ get_or ps i p =
    lent_there s.raw ts i None p c.requires.there there
    (c.lent_at-placed.ensures ∙ ap (λ us. option_map (placed_as s.raw) (get_or (map span_in us) i None)) c.deref.ensures.value) in
    shifted_at m deltas ps i p within here ∙ ap Some (ap (λ d. shifted m d p) (sym first) ∙ sym shown)
