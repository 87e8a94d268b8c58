use Rattle.intake.specs.LiveStores.{SeatGoesOn}
use Rattle.trace_server.specs.WorkerConnections.{AllUnderway}
use Rattle.trace_server.proofs.event_loop.EventLoop.run.Given as goal

abbrev pub invariant-loop : goal.invariant-loop
invariant-loop g l = AllUnderway g.N.StoreName.limits l.store l.self.connections × SeatGoesOn l.initial.store.seat l.store.seat
