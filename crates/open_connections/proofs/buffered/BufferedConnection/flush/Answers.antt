use Rattle.std.proofs.Common.{ap, sym, ◌∙◌}
use Rattle.open_connections.specs.BufferedConnections.{bytes_waiting}
use Rattle.open_connections.proofs.Deliveries.{flushed}
use Rattle.open_connections.proofs.buffered.BufferedConnection.flush.Goals as goal

pub returns-clause-same : goal.returns-clause-same
returns-clause-same g c =
    flushed _ _ c.args.self.now.waiting c.unless_empty.result _ _ (ap bytes_waiting (sym c.take.ensures.value ∙ c.in-Some.is))
    c.unless_empty.ensures c.write_some-written.ensures.first
