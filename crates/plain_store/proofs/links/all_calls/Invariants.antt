use Rattle.std.proofs.Common.{◌≡◌, ◌++◌, drop}
use Rattle.trace_model.specs.ServiceLinks.{calls}
use Rattle.plain_store.proofs.links.all_calls.Given as goal

-- the calls so far, followed by those of the remaining traces, are all calls
abbrev pub invariant-loop-trace : goal.invariant-loop-trace
invariant-loop-trace l = l.calls.items ++ calls l.end_ms l.lookback_ms (drop l.trace-index l.traces) ≡ calls l.end_ms l.lookback_ms l.traces
