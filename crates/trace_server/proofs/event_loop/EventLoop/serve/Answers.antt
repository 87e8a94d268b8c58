use Rattle.std.proofs.Common.{sym, subst}
use Rattle.open_connections.specs.OpenConnections.{socket_model}
use Rattle.open_connections.proofs.OpenConnections.{rest_is_open, still_there}
use Rattle.trace_server.specs.WorkerConnections.{live_store, AllUnderway}
use Rattle.trace_server.proofs.SessionPieces.{asking_goes_on}
use Rattle.trace_server.proofs.event_loop.EventLoop.serve.Goals as goal

pub keep-requires : goal.keep-requires
keep-requires g c = record { there = still_there _ _ c.in-Open.ensures.turn }

pub returns-in-Open-clause-underway : goal.returns-in-Open-clause-underway
returns-in-Open-clause-underway g c =
    rest_is_open (live_store g.N.StoreName.limits)
    socket_model c.take_turn.new.backend c.take_turn.new.self c.keep.new.self.connections c.take_turn.ensures.underway c.keep.ensures.rest

pub returns-in-Open-clause-goes_on : goal.returns-in-Open-clause-goes_on
returns-in-Open-clause-goes_on g c = asking_goes_on g.N.StoreName.limits c.args.store.now c.take_turn.new.backend c.take_turn.ensures.asks

pub returns-in-Removed-clause-underway : goal.returns-in-Removed-clause-underway
returns-in-Removed-clause-underway g c =
    subst (AllUnderway g.N.StoreName.limits c.take_turn.new.backend) (sym c.close_connection.ensures.open) c.take_turn.ensures.underway

pub returns-in-Removed-clause-goes_on : goal.returns-in-Removed-clause-goes_on
returns-in-Removed-clause-goes_on g c = asking_goes_on g.N.StoreName.limits c.args.store.now c.take_turn.new.backend c.take_turn.ensures.asks

pub returns-in-Absent-clause-goes_on : goal.returns-in-Absent-clause-goes_on
returns-in-Absent-clause-goes_on g c = asking_goes_on g.N.StoreName.limits c.args.store.now c.take_turn.new.backend c.take_turn.ensures.asks
