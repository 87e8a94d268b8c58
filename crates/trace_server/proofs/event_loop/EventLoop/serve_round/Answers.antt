use Rattle.intake.proofs.LiveSeats.{goes_further}
use Rattle.open_connections.specs.OpenConnections.{socket_model}
use Rattle.open_connections.proofs.OpenConnections.{rest_is_open}
use Rattle.trace_server.specs.WorkerConnections.{live_store}
use Rattle.trace_server.proofs.event_loop.EventLoop.serve_round.Goals as goal

pub returns-clause-underway : goal.returns-clause-underway
returns-clause-underway g c =
    rest_is_open (live_store g.N.StoreName.limits)
    socket_model c.accept.new.store c.accept.new.self.connections c.drop_silent.new.self.connections c.accept.ensures.underway c.drop_silent.ensures.rest

pub returns-clause-goes_on : goal.returns-clause-goes_on
returns-clause-goes_on g c = goes_further _ _ _ c.serve_ready.ensures.goes_on c.accept.ensures.goes_on
