use Rattle.std.proofs.Common.{◌≡◌}
use Rattle.open_connections.proofs.socket.SocketTryConnection.try_write.Given as goal

abbrev pub invariant-loop-tried : goal.invariant-loop-tried
invariant-loop-tried l = l.self.failed ≡ l.initial.self.failed
