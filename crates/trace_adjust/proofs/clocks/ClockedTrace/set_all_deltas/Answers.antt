use Rattle.std.proofs.Common.{◌≡◌, ◌+◌, ◌≤◌, ◌∙◌, cond, sym, ap, arith}
use Rattle.std.proofs.lemmas.Bool.{false≢true}
use Rattle.trace_adjust.specs.KnownClocks.{unset_count}
use Rattle.trace_adjust.specs.KnownDeltas.{deltas_in}
use Rattle.trace_adjust.proofs.KnownClocks.{closed_more}
use Rattle.trace_adjust.proofs.clocks.ClockedTrace.set_all_deltas.Goals as goal
use Rattle.trace_adjust.proofs.clocks.ClockedTrace.set_all_deltas.Goals.{then-set_delta, else-set_delta}

pub loop-place-preserved : goal.loop-place-preserved
loop-place-preserved c =
    let t = c.args.self.now in
    let old = deltas_in c.loop-place.deltas in
    let new = deltas_in c.set_delta.new.deltas in
    record {
      set = c.set_delta.ensures.set;
      marked = c.set_delta.ensures.marked;
      closed = elim c.if-set_delta.branch [
        | then-set_delta w ↦ λ e. absurd (false≢true (sym e ∙ w.changed-is))
        | else-set_delta w ↦ λ e.
            let h = c.set_delta.ensures.closed w.if-set_delta.false in
            closed_more t.max_skew t.spans.now c.loop-place.place old new h.0 (c.loop-place.invariant.closed (sym w.changed-is ∙ e)) h.1
      ];
      fewer = elim c.if-set_delta.branch [
        | then-set_delta w ↦
            let f : unset_count new + 1 ≡ unset_count old =
            ap (λ b. unset_count new + cond b 1 0) (sym w.if-set_delta.true) ∙ c.set_delta.ensures.fewer in
            let g : unset_count new + cond c.if-set_delta.changed 1 0 ≡ unset_count new + 1 = ap (λ b. unset_count new + cond b 1 0) w.changed-is in
            let h : unset_count old + cond c.loop-place.changed 1 0 ≤ unset_count (deltas_in c.args.deltas.now) = c.loop-place.invariant.fewer in
            omega (arith, f, g, h)
        | else-set_delta w ↦
            let f : unset_count new + 0 ≡ unset_count old =
            ap (λ b. unset_count new + cond b 1 0) (sym w.if-set_delta.false) ∙ c.set_delta.ensures.fewer in
            let g : unset_count new + cond c.if-set_delta.changed 1 0 ≡ unset_count new + cond c.loop-place.changed 1 0 =
            ap (λ b. unset_count new + cond b 1 0) w.changed-is in
            let h : unset_count old + cond c.loop-place.changed 1 0 ≤ unset_count (deltas_in c.args.deltas.now) = c.loop-place.invariant.fewer in
            omega (arith, f, g, h)
      ];
    }
