use Rattle.std.proofs.Common.{◌≡◌, List, ap, subst}
use Rattle.crossbeam_queue.specs.Passes.{view}
use Rattle.trace_model.specs.declared.entry.Entry.{Entry}
use Rattle.intake.specs.Queues.{AreLast}
use Rattle.intake.specs.Turns.{InboxValue}
use Rattle.intake.proofs.TakenJobNumbers.{has_so_many}
use Rattle.intake.proofs.inbox.Inbox.has_taken.Goals as goal

pub returns : goal.returns
returns g c =
    let v = view c.self.inside.queue_end in
    let taken = c.args.self.now.taken in
    let numbers = c.self.inside.last.items in
    let same : v.taken ≡ taken = ap (λ (z : InboxValue). z.taken) c.self.view_is in
    let last = subst (λ (z : List Entry). AreLast v.made z numbers) same c.self.invariant.3 in
    has_so_many v.made taken numbers c.args.seat c.args.number c.last_taken.result last c.last_taken.ensures
