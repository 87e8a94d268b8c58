use Rattle.std.proofs.Common.{◌≡◌}
use Rattle.std.specs.Io.KnownBytes.{Keeps}
use Rattle.session_devices.proofs.watched.WatchedOutput.write.Given as goal

-- nothing was written, and nothing has failed
abbrev pub invariant-loop-tried : goal.invariant-loop-tried
invariant-loop-tried g l =
    Keeps (g.T.Write.contents l.initial.self.inner) (g.T.Write.contents l.self.inner) × (l.self.failed ≡ l.initial.self.failed)
