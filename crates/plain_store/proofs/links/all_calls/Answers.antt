use Rattle.std.proofs.Common.{rules}
use Rattle.std.specs.Int.{w64}
use Rattle.std.proofs.lemmas.Int.{to_z-of_z}
use Rattle.trace_model.specs.ServiceLinks.{calls_within}
use Rattle.trace_model.proofs.LoopSteps.{gathered_more, gathered_all}
use Rattle.plain_store.proofs.links.all_calls.Goals as goal

pub loop-trace-preserved : goal.loop-trace-preserved
loop-trace-preserved c =
    let e = to_z-of_z w64 c.args.end_ms c.ranges.end_ms in
    let l = to_z-of_z w64 c.args.lookback_ms c.ranges.lookback_ms in
    rw (e, l) (gathered_more (calls_within c.args.end_ms c.args.lookback_ms)
    _ c.loop-trace.calls.items _ c.args.traces.now c.loop-trace.trace-index c.trace-item.result (search rules) c.trace-item.is
    (rw (e, l) at c.loop-trace.invariant) (search rules))

pub returns : goal.returns
returns c =
    let e = to_z-of_z w64 c.args.end_ms c.ranges.end_ms in
    let l = to_z-of_z w64 c.args.lookback_ms c.ranges.lookback_ms in
    gathered_all (calls_within c.args.end_ms c.args.lookback_ms) _ c.loop-trace.calls.items c.args.traces.now c.loop-trace.trace-index c.loop-trace-test.false
    (rw (e, l) at c.loop-trace.invariant)
