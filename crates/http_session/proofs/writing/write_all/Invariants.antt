use Rattle.std.proofs.Common.{length, ◌-◌, ◌≡◌, ◌≤◌, take}
use Rattle.std.specs.Io.KnownBytes.{Appends}
use Rattle.http_session.proofs.writing.write_all.Given as goal

abbrev pub invariant-loop-done : goal.invariant-loop-done
invariant-loop-done g l = (l.done ≤ length l.bytes)
    × Appends (g.W.Output.contents l.initial.output) (g.W.Output.contents l.output) (take l.done l.bytes)
    × (g.W.Output.has_failed l.output ≡ g.W.Output.has_failed l.initial.output)
    × g.W.Output.takes l.initial.output (take l.done l.bytes) l.output

abbrev pub decreases-loop-done : goal.decreases-loop-done
decreases-loop-done g l = length l.bytes - l.done
