use Rattle.std.proofs.Common.{◌≡◌, ◌∙◌, ap}
use Rattle.trace_model.specs.Rings.{newest}
use Rattle.trace_assembly.specs.AssembledRows.{spots_of}
use Rattle.span_store.proofs.RingFollowsEvents.{follows_batch, follows_limit}
use Rattle.trace_assembly.specs.LocatedSpans.{events_in, located_events}
use Rattle.trace_model.specs.ShownSpans.{spans_of_trace}
use Rattle.span_store.proofs.StartsFollowEvents.{first_batch, starts_limited}
use Rattle.span_store.proofs.RangesFollowEvents.{ranged_batch, ranged_limited}
use Rattle.span_store.proofs.arrange.apply_entry.Goals as goal

pub returns-in-Batch-clause-follows : goal.returns-in-Batch-clause-follows
returns-in-Batch-clause-follows c = λ n h at f.
    let after = c.add_batch.new.shown in
    follows_batch n h c.args.entry.now c.in-Batch.batch c.in-Batch.is after.newest (spots_of after) (c.add_batch.ensures.follows n h at f)

pub returns-in-TraceLimit-clause-follows : goal.returns-in-TraceLimit-clause-follows
returns-in-TraceLimit-clause-follows c = λ n h at f.
    let before = c.args.shown.now in
    let after = c.apply_limit.new.shown in
    let ids : after.newest.ids ≡ newest c.in-TraceLimit.limit before.newest.ids =
    c.apply_limit.ensures.ids ∙ ap (λ m. newest m before.newest.ids) c.get.ensures.same in
    follows_limit n h c.args.entry.now c.in-TraceLimit.limit c.in-TraceLimit.is before.newest after.newest (spots_of before) (spots_of after)
    f (c.apply_limit.ensures.limit ∙ c.get.ensures.same) ids c.apply_limit.ensures.spots

pub returns-in-Batch-clause-first : goal.returns-in-Batch-clause-first
returns-in-Batch-clause-first c = λ n h at f first.
    first_batch n h c.args.entry.now c.in-Batch.batch c.in-Batch.is c.add_batch.new.starts.starts (c.add_batch.ensures.first n h at f first)

pub returns-in-TraceLimit-clause-first : goal.returns-in-TraceLimit-clause-first
returns-in-TraceLimit-clause-first c = λ n h at f first.
    let before = c.args.shown.now in
    let after = c.apply_limit.new.shown in
    let ids : after.newest.ids ≡ newest c.in-TraceLimit.limit before.newest.ids =
    c.apply_limit.ensures.ids ∙ ap (λ m. newest m before.newest.ids) c.get.ensures.same in
    starts_limited n h c.args.entry.now c.in-TraceLimit.limit c.in-TraceLimit.is before.newest.ids after.newest.ids
    c.args.starts.now.starts c.apply_limit.new.starts.starts f.ring ids c.apply_limit.ensures.starts first

pub returns-in-Batch-clause-ranged : goal.returns-in-Batch-clause-ranged
returns-in-Batch-clause-ranged c = λ n h at f ranged.
    ranged_batch n h c.args.entry.now c.in-Batch.batch c.in-Batch.is c.add_batch.new.shown c.add_batch.new.starts (c.add_batch.ensures.ranged n h at f ranged)

pub returns-in-TraceLimit-clause-ranged : goal.returns-in-TraceLimit-clause-ranged
returns-in-TraceLimit-clause-ranged c = λ n h at f ranged.
    ranged_limited n h c.args.entry.now c.in-TraceLimit.limit c.in-TraceLimit.is c.apply_limit.new.shown c.apply_limit.new.starts
    (c.apply_limit.ensures.ranged (spans_of_trace n (events_in (located_events h))) ranged)
