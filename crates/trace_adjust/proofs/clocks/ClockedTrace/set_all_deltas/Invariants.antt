use Rattle.std.proofs.Common.{◌≡◌, ◌≤◌, ◌+◌, cond, false}
use Rattle.trace_adjust.specs.KnownClocks.{clocks_with, AreClosed, AreMarked, AreSet, unset_count}
use Rattle.trace_adjust.specs.KnownDeltas.{deltas_in}
use Rattle.trace_adjust.proofs.clocks.ClockedTrace.set_all_deltas.Given as goal

abbrev pub invariant-loop-place : goal.invariant-loop-place
invariant-loop-place l = record {
  set : AreSet l.self.max_skew l.self.spans.now (deltas_in l.deltas);
  marked : AreMarked l.self.max_skew l.self.spans.now l.deltas;
  closed : l.changed ≡ false → AreClosed l.self.max_skew l.self.spans.now l.place (clocks_with l.self.max_skew l.self.spans.now (deltas_in l.deltas));
  fewer : unset_count (deltas_in l.deltas) + cond l.changed 1 0 ≤ unset_count (deltas_in l.fn.deltas);
}
