use Rattle.std.proofs.Common.{rules}
use Rattle.std.specs.Int.{w128}
use Rattle.std.proofs.lemmas.Int.{to_z-of_z}
use Rattle.trace_model.specs.Adjusting.{move_log}
use Rattle.trace_model.proofs.LoopSteps.{written_more}
use Rattle.span_steps.proofs.clock.move_logs.Goals as goal

pub loop-log-preserved : goal.loop-log-preserved
loop-log-preserved c =
    let d = to_z-of_z w128 c.args.delta c.ranges.delta in
    rw d (written_more (move_log c.args.delta) c.args.logs.now c.loop-log.logs c.loop-log.log-index c.log-item.result c.move_log.new.log (search rules)
    (rw d at c.loop-log.invariant) (rw d at c.move_log.ensures))
