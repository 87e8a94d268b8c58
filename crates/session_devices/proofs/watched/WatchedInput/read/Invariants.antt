use Rattle.std.proofs.Common.{◌≡◌}
use Rattle.std.specs.Io.KnownBytes.{Keeps}
use Rattle.session_devices.proofs.watched.WatchedInput.read.Given as goal

-- nothing was read, and nothing has failed
abbrev pub invariant-loop-tried : goal.invariant-loop-tried
invariant-loop-tried g l =
    Keeps (g.T.Read.remaining l.initial.self.inner) (g.T.Read.remaining l.self.inner) × (l.self.failed ≡ l.initial.self.failed)
