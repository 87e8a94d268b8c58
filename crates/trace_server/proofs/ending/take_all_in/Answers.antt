use Rattle.std.proofs.Common.{◌∙◌, sym, inl, map}
use Rattle.std.specs.Arc.{arc_value}
use Rattle.trace_server.proofs.Workers.{last_popped, last_open, open_at, moves_more, one_taken_in}
use Rattle.trace_server.proofs.ending.take_all_in.Goals as goal

pub take_in_seat-requires-clause-desk : goal.take_in_seat-requires-clause-desk
take_in_seat-requires-clause-desk g c =
    let last = last_popped (λ w. w.live.seat)
    c.loop-live.workers.items c.pop.new.self.items _ c.into_parts-seat.result.0 c.in-Some.ensures.items c.into_parts-seat.ensures.seat in
    sym (last_open c.loop-live.books.inbox.desk _ _ _ last c.loop-live.invariant.0).1

pub take_in_seat-requires-clause-seat : goal.take_in_seat-requires-clause-seat
take_in_seat-requires-clause-seat g c =
    let last = last_popped (λ w. w.live.seat)
    c.loop-live.workers.items c.pop.new.self.items _ c.into_parts-seat.result.0 c.in-Some.ensures.items c.into_parts-seat.ensures.seat in
    inl (last_open c.loop-live.books.inbox.desk _ _ _ last c.loop-live.invariant.0).2

pub loop-live-preserved : goal.loop-live-preserved
loop-live-preserved g c =
    let i = c.loop-live.invariant in
    let e = c.in_ok-take_in_seat.ensures in
    let before = c.loop-live.books in
    let after = c.take_in_seat.new.self in
    let seat = c.into_parts-seat.result.0 in
    let old = c.args.books.now in
    let last = last_popped (λ w. w.live.seat) c.loop-live.workers.items c.pop.new.self.items _ seat c.in-Some.ensures.items c.into_parts-seat.ensures.seat in
    let rest = last_open before.inbox.desk _ _ _ last i.0 in (
      open_at after.inbox.desk before.inbox.desk _ e.desk rest.0,
      e.books,
      moves_more seat.seat seat.jobs old.inbox.taken (map arc_value old.unjudged.items) before.inbox.taken (map arc_value before.unjudged.items)
          after.inbox.taken (map arc_value after.unjudged.items) i.2 e.moved,
      one_taken_in _ _ _ seat before.inbox.ended after.inbox.ended before.inbox.taken after.inbox.taken i.3 last e.others_ended e.others_whole e.ended e.whole,
      e.accounts ∙ i.4,
      e.counts.0 ∙ i.5,
      e.counts.1 ∙ i.6,
    )
