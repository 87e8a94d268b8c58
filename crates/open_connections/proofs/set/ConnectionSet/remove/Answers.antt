use Rattle.std.proofs.Common.{subst}
use Rattle.open_connections.specs.OpenConnections.{IsRest}
use Rattle.open_connections.proofs.OpenConnections.{rest_of_removed}
use Rattle.open_connections.proofs.set.ConnectionSet.remove.Goals as goal

pub returns : goal.returns
returns g c = record {
  rest =
      subst (λ x. IsRest x c.try_remove.new.self) c.self.view_is
      (rest_of_removed c.self.inside.connections c.try_remove.new.self _ c.try_remove.ensures.updates);
}
