use Rattle.std.proofs.Common.{◌≡◌, ℤ, List, length, map}
use Rattle.jaeger_model.specs.declared.ids.TraceId.{TraceId}
use Rattle.jaeger_model.specs.declared.placed.Placed.{Placed}
use Rattle.journal_traces.specs.TraceRanges.{AreRanged}
use Rattle.span_store.proofs.OldestLeaveFirst.{IsLowering}
use Rattle.span_store.proofs.arrange.apply_limit.Given as goal

abbrev pub invariant-loop-evicted : goal.invariant-loop-evicted
invariant-loop-evicted l = record {
  lowering : IsLowering l.limit l.fn.shown l.shown;
  starts : (first : TraceId → ℤ) → l.fn.starts.starts ≡ map first l.fn.shown.newest.ids → l.starts.starts ≡ map first l.shown.newest.ids;
  used : l.starts.used ≡ l.fn.starts.used;
  room : l.starts.room ≡ l.fn.starts.room;
  as_many : length l.starts.starts ≡ length l.shown.newest.ids;
  ranged : (spans : TraceId → List Placed) → AreRanged l.fn.starts l.fn.shown.newest.ids spans → AreRanged l.starts l.shown.newest.ids spans;
}

abbrev pub decreases-loop-evicted : goal.decreases-loop-evicted
decreases-loop-evicted l = length l.shown.newest.ids
