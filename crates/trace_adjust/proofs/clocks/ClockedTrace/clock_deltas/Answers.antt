use Rattle.std.proofs.Common.{sym, subst}
use Rattle.trace_adjust.specs.KnownClocks.{clocks_with, AreMarked, AreSet}
use Rattle.trace_adjust.specs.KnownDeltas.{deltas_in}
use Rattle.trace_adjust.proofs.KnownClocks.{all_known}
use Rattle.trace_adjust.proofs.Marks.{none_known, none_marked}
use Rattle.trace_adjust.proofs.clocks.ClockedTrace.clock_deltas.Goals as goal

pub returns-then-not-set_all_deltas : goal.returns-then-not-set_all_deltas
returns-then-not-set_all_deltas c =
    let m = c.args.self.now.max_skew in
    let all = c.args.self.now.spans.now in
    let done = c.set_all_deltas.ensures in (
      done.set.0,
      all_known m all (clocks_with m all (deltas_in c.set_all_deltas.new.deltas)) done.set.1 (done.closed c.if-not-set_all_deltas.true),
    )

pub loop-place-init : goal.loop-place-init
loop-place-init c =
    let m = c.args.self.now.max_skew in
    let all = c.args.self.now.spans.now in
    record {
      set = subst (λ ks. AreSet m all (deltas_in ks)) (sym c.in_ok-deltas.ensures) (none_known m all);
      marked = subst (AreMarked m all) (sym c.in_ok-deltas.ensures) (none_marked m all);
    }
