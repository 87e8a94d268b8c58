use Rattle.std.proofs.Common.{◌≡◌, ◌<◌, ◌∙◌, None, option_map, get_or, length, sym, ap, refl, arith, subst}
use Rattle.trace_adjust.specs.KnownClocks.{place_in, clock_near, clock_with, clocks_with}
use Rattle.trace_adjust.specs.KnownDeltas.{delta_of, deltas_in}
use Rattle.trace_adjust.proofs.KnownClocks.{span_at, parent_read, known_closed, step_set, step_closed, step_fewer}
use Rattle.trace_adjust.proofs.KnownParts.{known_read}
use Rattle.trace_adjust.proofs.Marks.{count_known, deltas_set, is_known_at, is_stored, mark_more}
use Rattle.trace_model.proofs.Lists.{none_is}
use Rattle.trace_adjust.proofs.clocks.ClockedTrace.set_delta.Goals as goal

pub returns-then-is_known : goal.returns-then-is_known
returns-then-is_known c =
    let m = c.args.self.now.max_skew in
    let all = c.args.self.now.spans.now in
    let ks = c.args.deltas.now in
    let i = c.args.place in
    record {
      set = c.requires.set;
      marked = c.requires.marked;
      closed = λ _. (refl, known_closed m all (deltas_in ks) i c.requires.set.0 (is_known_at ks i ∙ sym c.is_known.ensures ∙ c.if-is_known.true));
      fewer = omega arith;
    }

pub returns : goal.returns
returns c =
    let m = c.args.self.now.max_skew in
    let all = c.args.self.now.spans.now in
    let i = c.args.place in
    let ks = c.args.deltas.now in
    let old = deltas_in ks in
    let new = deltas_in c.store.new.self in
    let near = c.delta_near-delta.result in
    let within = c.requires.within in
    let span = span_at all i within in
    let p = span.0 in
    let here = span.1 in
    let unset : get_or old i None ≡ None = known_read ks i ∙ ap delta_of (none_is (get_or ks i None) (sym c.is_known.ensures ∙ c.if-is_known.false)) in
    let right : option_map (clock_with m p) near ≡ clock_near m (clocks_with m all old) p (place_in all p) =
    subst (λ x. option_map (clock_with m x) near ≡ clock_near m (clocks_with m all old) x (place_in all x)) (sym here)
    (c.delta_near-delta.ensures p
    ∙ ap (clock_near m (clocks_with m all old) (get_or all i p)) (parent_read all c.args.self.now.parents.now i p within c.args.self.now.parents_found)) in
    let after = deltas_set ks c.store.new.self i c.marked.result near c.store.ensures.after c.marked.ensures.delta in
    let stored = c.store.ensures.stored ∙ is_stored c.marked.result near c.marked.ensures.delta in
    let there : i < length ks = omega (arith, count_known ks, c.requires.set.0, within) in
    record {
      set = step_set m all old new i p near within here unset after right c.requires.set;
      marked = mark_more m all ks c.store.new.self i c.marked.result there c.store.ensures.after c.marked.ensures.mark c.requires.marked;
      closed = λ e. step_closed m all old new i p near within here unset after right c.requires.set (sym stored ∙ e);
      fewer = step_fewer m all old new i p near within here unset after right c.requires.set c.store.result stored;
    }
