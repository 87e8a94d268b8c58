use Rattle.trace_adjust.specs.KnownClocks.{unset_count, AreMarked, AreSet}
use Rattle.trace_adjust.specs.KnownDeltas.{deltas_in}
use Rattle.trace_adjust.proofs.clocks.ClockedTrace.clock_deltas.Given as goal

abbrev pub invariant-loop-place : goal.invariant-loop-place
invariant-loop-place l = record {
  set : AreSet l.self.max_skew l.self.spans.now (deltas_in l.deltas);
  marked : AreMarked l.self.max_skew l.self.spans.now l.deltas;
}

abbrev pub invariant-loop-deltas : goal.invariant-loop-deltas
invariant-loop-deltas l = record {
  set : AreSet l.self.max_skew l.self.spans.now (deltas_in l.deltas);
  marked : AreMarked l.self.max_skew l.self.spans.now l.deltas;
}

abbrev pub decreases-loop-deltas : goal.decreases-loop-deltas
decreases-loop-deltas l = unset_count (deltas_in l.deltas)
