use Rattle.std.proofs.Common.{◌∙◌, sym}
use Rattle.trace_server.proofs.Workers.{as_many}
use Rattle.trace_server.proofs.shared.open_for_workers.Goals as goal

pub open_desk-requires-clause-capacity : goal.open_desk-requires-clause-capacity
open_desk-requires-clause-capacity g c = (c.args.config.now.options.within.3, c.args.config.now.options.within.4)

pub open_desk-requires-clause-seats : goal.open_desk-requires-clause-seats
open_desk-requires-clause-seats g c = (c.args.config.now.options.within.1, c.args.config.now.options.within.2)

pub worker_starts-requires : goal.worker_starts-requires
worker_starts-requires g c =
    c.requires.passes ∙ sym (as_many (λ s. s.seat) c.in_ok-desk.seats.items c.args.config.now.options.workers c.in_ok-desk.ensures.numbers)
