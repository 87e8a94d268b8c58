use Rattle.std.proofs.Common.{rules, ◌≡◌, [], ◌∷◌, ◌++◌, ◌∙◌, subst, sym, refl, map, false}
use Rattle.std.specs.Arc.{arc_value}
use Rattle.intake.specs.Queues.{AreWhole}
use Rattle.intake.specs.Turns.{InboxValue}
use Rattle.intake.specs.Books.{AllTaken, desk_jobs, StaysTaken, is_job, has_job}
use Rattle.intake.proofs.EndedSeats.{emptied, finished}
use Rattle.intake.proofs.TakenJobs.{taken-already, moves-one, left-more, balances-more, still-not, stays}
use Rattle.intake.proofs.books.Books.take_in_seat.Goals as goal

pub returns-then-has_taken-clause-whole : goal.returns-then-has_taken-clause-whole
returns-then-has_taken-clause-whole g c =
    let l = c.learn_queue.ensures in
    subst (λ (t : InboxValue). AllTaken c.args.seat.now.seat c.args.seat.now.jobs t.taken) (sym l.same)
    (taken-already c.end_seat.new.self.ended c.args.seat.now.seat c.submitted-last.result c.args.seat.now.jobs c.end_seat.new.self.taken
    l.waits.0 c.end_seat.ensures.ended l.waits.1 (search rules) (search rules))

pub returns-in_default-clause-whole : goal.returns-in_default-clause-whole
returns-in_default-clause-whole g c =
    let e = c.in_default.ensures in
    subst (λ (t : InboxValue). AllTaken c.args.seat.now.seat c.args.seat.now.jobs t.taken) (sym e.0)
    (emptied c.loop.self.inbox.ended c.args.seat.now.seat c.args.seat.now.jobs c.loop.self.inbox.taken e.1.0 c.loop.invariant.1 e.1.2 e.1.1)

pub returns-in_default-clause-others_whole : goal.returns-in_default-clause-others_whole
returns-in_default-clause-others_whole g c =
    let e = c.in_default.ensures in
    let i = c.loop.invariant in
    let old = c.args.self.now in
    let before = c.loop.self in
    subst (λ (t : InboxValue). StaysTaken old.inbox.ended old.inbox.taken t.taken) (sym e.0)
    (stays old.inbox.ended before.inbox.ended c.args.seat.now.seat c.args.seat.now.jobs (desk_jobs old.inbox.taken (map arc_value old.unjudged.items))
    (desk_jobs before.inbox.taken (map arc_value before.unjudged.items)) e.1.0 i.2 i.3 e.1.2)

pub returns-then-is_last-clause-whole : goal.returns-then-is_last-clause-whole
returns-then-is_last-clause-whole g c =
    let p = c.in-Some-pop.ensures in
    let l = c.learn_queue-then-is_last.ensures in
    let items = l.waits.0 in
    subst (λ (t : InboxValue). AllTaken c.args.seat.now.seat c.args.seat.now.jobs t.taken) (sym (l.same ∙ p))
    (finished c.loop.self.inbox.ended c.args.seat.now.seat c.args.seat.now.jobs c.loop.self.inbox.taken c.in-Some-pop.job items c.loop.invariant.1
    (subst (λ (t : InboxValue). AreWhole t.ended (t.taken ++ items)) p l.waits.1)
    (search rules) (search rules))

pub returns-then-is_last-clause-moved : goal.returns-then-is_last-clause-moved
returns-then-is_last-clause-moved g c =
    let i = c.loop.invariant in
    let seat = c.args.seat.now in
    let before = c.loop.self in
    let not : has_job seat.seat c.submitted-last.result before.inbox.taken ≡ false = search rules in
    moves-one seat.seat c.submitted-last.result seat.jobs (desk_jobs c.args.self.now.inbox.taken (map arc_value c.args.self.now.unjudged.items))
    (desk_jobs before.inbox.taken (map arc_value before.unjudged.items))
    (desk_jobs c.learn_queue-then-is_last.new.self.taken (map arc_value c.push_reserved.new.self.items)) c.in-Some-pop.job i.3 (search rules) i.5 not
    (search rules)
    (left-more arc_value before.unjudged.items c.reserve.new.self.items c.push_reserved.new.self.items c.into_entry-entry.result c.in-Some-pop.job
    c.push_reserved.ensures.items (search rules) (c.into_entry-entry.ensures ∙ c.split-entry.ensures.entry))

pub returns-then-is_last-clause-others_whole : goal.returns-then-is_last-clause-others_whole
returns-then-is_last-clause-others_whole g c =
    let p = c.in-Some-pop.ensures in
    let l = c.learn_queue-then-is_last.ensures in
    let i = c.loop.invariant in
    let seat = c.args.seat.now in
    let old = c.args.self.now in
    let before = c.loop.self in
    let job = c.in-Some-pop.job in
    let not : has_job seat.seat c.submitted-last.result before.inbox.taken ≡ false = search rules in
    let unjudged = map arc_value before.unjudged.items in
    let first = desk_jobs old.inbox.taken (map arc_value old.unjudged.items) in
    let next = desk_jobs (before.inbox.taken ++ job ∷ []) (unjudged ++ job ∷ []) in
    let moved = moves-one seat.seat c.submitted-last.result seat.jobs first (desk_jobs before.inbox.taken unjudged) next job i.3 (search rules) i.5 not refl
    refl in
    let whole = subst (λ (t : InboxValue). AreWhole t.ended (t.taken ++ l.waits.0)) p l.waits.1 in
    subst (λ (t : InboxValue). StaysTaken old.inbox.ended old.inbox.taken t.taken) (sym (l.same ∙ p))
    (stays old.inbox.ended before.inbox.ended seat.seat seat.jobs first next l.waits.0 i.2 moved whole)

pub loop-preserved : goal.loop-preserved
loop-preserved g c =
    let i = c.loop.invariant in
    let seat = c.args.seat.now in
    let before = c.loop.self in
    let job = c.in-Some-pop.job in
    let not : has_job seat.seat c.submitted-last.result before.inbox.taken ≡ false = search rules in
    let taken : c.pop.new.self.taken ≡ before.inbox.taken ++ job ∷ [] = search rules in
    let left = left-more arc_value before.unjudged.items c.reserve.new.self.items c.push_reserved.new.self.items c.into_entry-entry.result job
    c.push_reserved.ensures.items (search rules) (c.into_entry-entry.ensures ∙ c.split-entry.ensures.entry) in
    let other : is_job c.number-number.result c.submitted-last.result job ≡ false = search rules in (
      balances-more before.inbox.taken c.pop.new.self.taken (map arc_value before.unjudged.items) (map arc_value c.push_reserved.new.self.items)
          before.accounts job i.0 taken left,
      search rules,
      search rules,
      moves-one seat.seat c.submitted-last.result seat.jobs (desk_jobs c.args.self.now.inbox.taken (map arc_value c.args.self.now.unjudged.items))
          (desk_jobs before.inbox.taken (map arc_value before.unjudged.items))
          (desk_jobs c.pop.new.self.taken (map arc_value c.push_reserved.new.self.items)) job i.3 (search rules) i.5 not taken left,
      still-not c.number-number.result c.submitted-last.result before.inbox.taken c.pop.new.self.taken job i.4 other taken,
      i.5,
      search rules,
      i.7,
      i.8,
      i.9,
      i.10,
      i.11,
      i.12,
    )
