use Rattle.http_session.proofs.SessionPieces.{promises_of}
use Rattle.intake.specs.LiveLaws.{submit_knows, read_knows}
use Rattle.open_connections.specs.OpenConnections.{socket_model}
use Rattle.open_connections.proofs.OpenConnections.{rest_is_open, all_open_later}
use Rattle.trace_server.specs.WorkerConnections.{live_store}
use Rattle.trace_server.proofs.SessionPieces.{learning_keeps}
use Rattle.trace_server.proofs.event_loop.EventLoop.open_accepted.Goals as goal

pub returns-then-is_err-clause-underway : goal.returns-then-is_err-clause-underway
returns-then-is_err-clause-underway g c =
    let limits = g.N.StoreName.limits in
    all_open_later (live_store limits) (promises_of (submit_knows limits) (read_knows limits))
    socket_model c.args.store.now c.learn.new.self c.args.self.now.connections
    (learning_keeps limits c.args.store.now c.learn.new.self c.learn.ensures.old c.learn.ensures.refused_by) c.requires.underway

pub add-requires-clause-underway : goal.add-requires-clause-underway
add-requires-clause-underway g c =
    let limits = g.N.StoreName.limits in
    all_open_later (live_store limits) (promises_of (submit_knows limits) (read_knows limits))
    socket_model c.args.store.now c.learn.new.self c.args.self.now.connections
    (learning_keeps limits c.args.store.now c.learn.new.self c.learn.ensures.old c.learn.ensures.refused_by) c.requires.underway

pub returns-then-is_err-2-clause-underway : goal.returns-then-is_err-2-clause-underway
returns-then-is_err-2-clause-underway g c =
    rest_is_open (live_store g.N.StoreName.limits) socket_model c.learn.new.self c.add.new.self c.remove.new.self c.add.ensures.underway c.remove.ensures.rest
