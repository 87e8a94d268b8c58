use Rattle.std.proofs.Common.{◌≡◌, List, refl, ◌∙◌, ap, subst, drop, map}
use Rattle.jaeger_model.specs.declared.ids.TraceId.{TraceId}
use Rattle.journal_traces.specs.TraceRanges.{AreRanged}
use Rattle.span_store.proofs.OldestLeaveFirst.{lowering_more}
use Rattle.span_store.proofs.RangesFollowEvents.{one_fewer, ranged_dropped}
use Rattle.span_store.proofs.arrange.apply_limit.Goals as goal

pub loop-evicted-preserved : goal.loop-evicted-preserved
loop-evicted-preserved c =
    let before = c.loop-evicted in
    let out = c.in-Some.ensures in
    let many = out.variant.0 refl in
    record {
      lowering = lowering_more c.args.limit c.args.shown.now before.shown c.drop_oldest.new.self c.in-Some._evicted.trace before.invariant.lowering
          out.limit out.ids many.0 many.1 out.not_held out.spots out.used out.room;
      starts = λ first are. c.evict_oldest.ensures.starts ∙ ap (drop 1) (before.invariant.starts first are ∙ ap (map first) out.ids);
      used = c.evict_oldest.ensures.used ∙ before.invariant.used;
      room = c.evict_oldest.ensures.room ∙ before.invariant.room;
      as_many =
          one_fewer before.shown.newest.ids c.drop_oldest.new.self.newest.ids c.in-Some._evicted.trace before.starts.starts
          c.evict_oldest.new.self.starts
          before.invariant.as_many out.ids c.evict_oldest.ensures.starts;
      ranged = λ spans ranged.
          ranged_dropped before.starts c.evict_oldest.new.self before.shown.newest.ids c.drop_oldest.new.self.newest.ids c.in-Some._evicted.trace
          out.ids before.invariant.as_many c.evict_oldest.ensures.ranges spans (before.invariant.ranged spans ranged);
    }

pub returns-clause-ranged : goal.returns-clause-ranged
returns-clause-ranged c = λ spans ranged.
    let same : c.loop-evicted.shown.newest.ids ≡ c.drop_oldest.new.self.newest.ids = c.in_default.ensures.ids in
    subst (λ (r : List TraceId). AreRanged c.loop-evicted.starts r spans) same (c.loop-evicted.invariant.ranged spans ranged)
