use Rattle.std.proofs.Common.{rules, ◌≡◌, ◌∙◌, ap, sym, subst, arith, length, List, ◌++◌, ◌∷◌, [], w64, to_z, of_z, ℤ}
use Rattle.std.specs.Prelude.{if◌then◌else◌}
use Rattle.std.proofs.lemmas.Option.{slice_get_within}
use Rattle.trace_ring.specs.RingValues.{NoneTwice, RingValue, evicted_trace}
use Rattle.trace_assembly.specs.AssembledRows.{spots_of}
use Rattle.trace_ring.specs.StartRanges.{IsIn, range_at}
use Rattle.span_store.proofs.RingFollowsEvents.{follows_more}
use Rattle.span_store.proofs.StartsFollowEvents.{arrived_starts}
use Rattle.span_store.proofs.RangesFollowEvents.{Ranges, counted_came, one_place, ranged_came, some_pushed}
use Rattle.span_store.proofs.arrange.add_span.Goals as goal

pub returns-clause-follows : goal.returns-clause-follows
returns-clause-follows c = λ n es p f same.
    let came = c.arrive_with_guess-arrived.ensures in
    let before = c.args.shown.now in
    let after = c.arrive_with_guess-arrived.new.self in
    follows_more n es c.args.spot p c.args.span.now.trace (evicted_trace c.arrive_with_guess-arrived.result.evicted) before.newest after.newest
    (spots_of before) (spots_of after) f same came.limit came.ids came.evicted came.not_held came.spots

pub returns-clause-starts : goal.returns-clause-starts
returns-clause-starts c = λ first are.
    let came = c.arrive_with_guess-arrived.ensures in
    let arrived = c.arrive_with_guess-arrived.result in
    let same : to_z w64 (of_z w64 c.args.span.now.start) ≡ c.args.span.now.start = search rules in
    let pushed = c.add_opened.ensures.starts ∙ ap (λ start. if arrived.opened then c.args.starts.now.starts ++ start ∷ [] else c.args.starts.now.starts) same in
    c.widen.ensures.starts
    ∙ arrived_starts c.args.shown.now.newest.ids c.arrive_with_guess-arrived.new.self.newest.ids c.args.span.now.trace c.args.span.now.start arrived.opened
    arrived.evicted
    c.args.starts.now.starts c.add_opened.new.starts.starts c.drop_evicted.new.starts.starts came.opened came.evicted pushed
    c.drop_evicted.ensures.starts first are

pub widen-requires : goal.widen-requires
widen-requires c =
    let came = c.arrive_with_guess-arrived.ensures in
    let arrived = c.arrive_with_guess-arrived.result in
    let within = slice_get_within c.arrive_with_guess-arrived.new.self.newest.ids arrived.position c.args.span.now.trace came.found in
    let many =
    counted_came c.args.shown.now.newest.ids c.arrive_with_guess-arrived.new.self.newest.ids c.args.span.now.trace arrived.opened arrived.evicted _
    c.args.starts.now.starts c.add_opened.new.starts.starts c.drop_evicted.new.starts.starts c.requires.counted.as_many came.opened came.evicted
    c.add_opened.ensures.starts c.drop_evicted.ensures.starts in
    omega (arith, within, many)

pub returns-clause-counted : goal.returns-clause-counted
returns-clause-counted c =
    let came = c.arrive_with_guess-arrived.ensures in
    let arrived = c.arrive_with_guess-arrived.result in
    let counted = c.requires.counted in
    let pushed = c.add_opened.ensures in
    let dropped = c.drop_evicted.ensures in
    let widened = c.widen.ensures in
    record {
      as_many =
          ap (λ (l : List ℤ). length l) widened.starts
          ∙ counted_came c.args.shown.now.newest.ids c.arrive_with_guess-arrived.new.self.newest.ids c.args.span.now.trace arrived.opened arrived.evicted _
          c.args.starts.now.starts c.add_opened.new.starts.starts c.drop_evicted.new.starts.starts counted.as_many came.opened came.evicted pushed.starts
          dropped.starts;
      few = omega (arith, counted.few, pushed.used, dropped.used, widened.used, came.used);
      same_room = widened.room ∙ dropped.room ∙ pushed.room ∙ counted.same_room ∙ sym came.room;
    }

pub returns-clause-ranged : goal.returns-clause-ranged
returns-clause-ranged c = λ n es p f ranged same start_is.
    let came = c.arrive_with_guess-arrived.ensures in
    let arrived = c.arrive_with_guess-arrived.result in
    let before = c.args.shown.now in
    let after = c.arrive_with_guess-arrived.new.self in
    let pushed = c.add_opened.ensures in
    let dropped = c.drop_evicted.ensures in
    let start : to_z w64 (of_z w64 c.args.span.now.start) ≡ c.args.span.now.start = search rules in
    let follows = follows_more n es c.args.spot p c.args.span.now.trace (evicted_trace arrived.evicted) before.newest after.newest
    (spots_of before) (spots_of after) f same came.limit came.ids came.evicted came.not_held came.spots in
    let ranges : Ranges before.newest.ids after.newest.ids c.args.span.now.trace arrived.evicted c.args.span.now.start c.args.starts.now c.add_opened.new.starts
    c.drop_evicted.new.starts c.widen.new.self = record {
      split = came.evicted;
      as_many = c.requires.counted.as_many;
      some = some_pushed arrived.opened c.args.starts.now.starts _ c.add_opened.new.starts.starts pushed.starts;
      wider = pushed.none_narrows;
      moved = dropped.ranges;
      still = counted_came before.newest.ids after.newest.ids c.args.span.now.trace arrived.opened arrived.evicted _
          c.args.starts.now.starts c.add_opened.new.starts.starts c.drop_evicted.new.starts.starts c.requires.counted.as_many came.opened came.evicted
          pushed.starts
          dropped.starts;
      wider_still = c.widen.ensures.none_narrows;
      own = λ k at.
          let once : NoneTwice after.newest.ids = subst (λ (w : RingValue). NoneTwice w.ids) c.ring.ensures c.len-once.ensures.once in
          let place = one_place after.newest.ids arrived.position k c.args.span.now.trace once came.found at in
          let own = subst (IsIn (range_at c.widen.new.self arrived.position)) start c.widen.ensures.own in
          subst (λ n. IsIn (range_at c.widen.new.self n) c.args.span.now.start) place own;
    } in
    ranged_came before.newest.ids after.newest.ids c.args.span.now.trace arrived.evicted c.args.span.now.start c.args.starts.now c.add_opened.new.starts
    c.drop_evicted.new.starts c.widen.new.self ranges
    n es (c.args.spot, p) f.ring follows.ring same start_is ranged
