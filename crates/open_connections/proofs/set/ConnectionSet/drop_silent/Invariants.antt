use Rattle.open_connections.specs.OpenConnections.{IsRest}
use Rattle.open_connections.proofs.set.ConnectionSet.drop_silent.Given as goal

abbrev pub invariant-loop-key : goal.invariant-loop-key
invariant-loop-key g l = IsRest l.initial.self l.self
