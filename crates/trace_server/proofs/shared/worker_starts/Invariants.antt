use Rattle.std.proofs.Common.{◌≡◌, ◌+◌, length, map}
use Rattle.trace_server.proofs.shared.worker_starts.Given as goal

abbrev pub invariant-loop-seat : goal.invariant-loop-seat
invariant-loop-seat g l = (map (λ p. p.live.seat) l.starts.items ≡ l.yielded)
    × (length l.passes.items + length l.yielded ≡ length l.fn.seats.items)
