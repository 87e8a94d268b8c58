use Rattle.std.proofs.Common.{◌≡◌, ◌<◌, ◌∙◌, sym, ap, arith, rules, get_or, length}
use Rattle.std.specs.Prelude.{None, Some}
use Rattle.std.specs.Int.{w128}
use mir.Val.{SFits}
use Rattle.std.proofs.lemmas.Int.{to_z-of_z}
use Rattle.trace_adjust.specs.KnownClocks.{clock_near, clocks_with}
use Rattle.trace_adjust.specs.KnownDeltas.{deltas_in}
use Rattle.trace_adjust.proofs.HostNumbers.{near_some, near_none}
use Rattle.trace_adjust.proofs.KnownClocks.{known_within}
use Rattle.trace_adjust.proofs.Marks.{mark_there, start_fits}
use Rattle.trace_adjust.proofs.clocks.ClockedTrace.delta_near.Goals as goal

pub delta_below-requires : goal.delta_below-requires
delta_below-requires c =
    let m = c.args.self.now.max_skew in
    let all = c.args.self.now.spans.now in
    let ks = c.args.deltas.now in
    let j = c.in-Some.parent in
    let k = c.in_ok-known.known in
    let q = c.hosted-above.result.placed.now in
    let known : get_or ks j None ≡ Some k = sym c.in_ok-known.ensures.delta in
    let within : j < length all = omega (arith, known_within ks j k known, c.requires.many) in
    start_fits m k q.span (mark_there m all ks j q k c.requires.marked within known c.hosted-above.ensures.span)

pub returns : goal.returns
returns c = λ d.
    let m = c.args.self.now.max_skew in
    let all = c.args.self.now.spans.now in
    let ks = c.args.deltas.now in
    let i = c.args.place in
    let j = c.in-Some.parent in
    let k = c.in_ok-known.known in
    let a = c.hosted-above.result in
    let known : get_or ks j None ≡ Some k = sym c.in_ok-known.ensures.delta in
    let within : j < length all = omega (arith, known_within ks j k known, c.requires.many) in
    let mark = mark_there m all ks j a.placed.now k c.requires.marked within known c.hosted-above.ensures.span in
    let fits : SFits w128 c.delta_below.result = search rules in
    rw (to_z-of_z w128 c.delta_below.result fits)
    (near_some m all ks i j a c.hosted.result d k c.delta_below.result
    c.hosted.ensures.span c.hosted-above.ensures.span c.hosted.ensures.number c.hosted-above.ensures.number c.requires.many
    known mark c.delta_below.ensures
    ∙ ap (clock_near m (clocks_with m all (deltas_in ks)) (get_or all i d)) (sym c.in-Some.is))

pub returns-in_err-known : goal.returns-in_err-known
returns-in_err-known c = λ d.
    let m = c.args.self.now.max_skew in
    let all = c.args.self.now.spans.now in
    let p = get_or all c.args.place d in
    rw c.from_residual.ensures
    (near_none m all c.args.deltas.now c.in-Some.parent p c.requires.many (sym c.in_err-known.ensures.delta)
    ∙ ap (clock_near m (clocks_with m all (deltas_in c.args.deltas.now)) p) (sym c.in-Some.is))
