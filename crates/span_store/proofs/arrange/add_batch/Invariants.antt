use Rattle.std.proofs.Common.{◌≡◌, ℕ, ◌+◌, ◌-◌, List, length}
use Rattle.trace_model.specs.declared.entry.Entry.{Entry}
use Rattle.trace_assembly.specs.AssembledRows.{spots_of}
use Rattle.trace_assembly.specs.LocatedSpans.{located_events, located_upto}
use Rattle.span_store.specs.StoreIndexes.{FollowsEvents, IsRingWithin}
use Rattle.span_store.specs.ShownStarts.{AreFirst, IsCounted, IsRanged}
use Rattle.span_store.proofs.arrange.add_batch.Given as goal

abbrev pub invariant-loop-span : goal.invariant-loop-span
invariant-loop-span l = record {
  index : l.index ≡ l.span-index;
  within : IsRingWithin l.shown.newest;
  follows : (n : ℕ) (h : List Entry) → l.place ≡ length h + 1 → FollowsEvents n (located_events h) l.initial.shown.newest (spots_of l.initial.shown)
      → FollowsEvents n (located_upto h l.batch l.span-index) l.shown.newest (spots_of l.shown);
  first : (n : ℕ) (h : List Entry) → l.place ≡ length h + 1 → FollowsEvents n (located_events h) l.initial.shown.newest (spots_of l.initial.shown)
      → AreFirst n (located_events h) l.initial.starts.starts → AreFirst n (located_upto h l.batch l.span-index) l.starts.starts;
  counted : IsCounted l.shown l.starts;
  ranged : (n : ℕ) (h : List Entry) → l.place ≡ length h + 1 → FollowsEvents n (located_events h) l.initial.shown.newest (spots_of l.initial.shown)
      → IsRanged n (located_events h) l.initial.shown l.initial.starts → IsRanged n (located_upto h l.batch l.span-index) l.shown l.starts;
  room : l.shown.room ≡ l.initial.shown.room;
  used : l.shown.used + (length l.batch.spans - l.span-index) ≡ l.initial.shown.used + length l.batch.spans;
}
