use Rattle.std.proofs.Common.{rules, sym, subst, slice_set}
use Rattle.crossbeam_queue.specs.Passes.{view}
use Rattle.intake.specs.declared.queue.QueueView.{QueueView}
use Rattle.intake.specs.Queues.{AreLast}
use Rattle.intake.proofs.TakenJobNumbers.{one_taken}
use Rattle.intake.proofs.Steps.{takes, waits}
use Rattle.intake.proofs.inbox.Inbox.pop.Goals as goal

pub pop_as-requires-clause-rule : goal.pop_as-requires-clause-rule
pop_as-requires-clause-rule g c = (takes _ _ c.self.invariant.1 c.self.invariant.2, waits _ _ c.self.invariant.1)

pub invariant_of-self-2 : goal.invariant_of-self-2
invariant_of-self-2 g c =
    let v = view c.self.inside.queue_end in
    let w = view c.pop_as.new.pass in
    let job = c.in_ok-job.job in
    let rule = c.in_ok-job.ensures.rule in
    let numbers = c.self.inside.last.items in
    let kept = one_taken v.made v.taken numbers job c.self.invariant.3 rule.1 rule.2 in
    let named = c.id-seat.ensures in
    let numbers' = slice_set numbers c.id-seat.result.0 c.id-seat.result.1 in
    let P : QueueView → Type 0 = λ z. AreLast z.made z.taken numbers' in (
      search rules,
      search rules,
      search rules,
      subst P (sym rule.0) (rw (named.0, named.1) kept),
    )
