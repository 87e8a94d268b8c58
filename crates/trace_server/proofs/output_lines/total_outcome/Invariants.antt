use Rattle.std.proofs.Common.{◌≡◌, min, take, sum_by}
use Rattle.std.specs.List.{list_any}
use Rattle.trace_server.proofs.output_lines.total_outcome.Given as goal

abbrev pub invariant-loop-worker : goal.invariant-loop-worker
invariant-loop-worker g l = (l.all.served ≡ min (sum_by (λ w. w.outcome.served) (take l.worker-index l.workers)) 18446744073709551615)
    × (l.all.failed ≡ list_any (λ w. w.outcome.failed) (take l.worker-index l.workers))
