use Rattle.std.proofs.Common.{◌≡◌, ◌++◌, map, take, drop}
use Rattle.trace_model.specs.Adjusting.{move_log}
use Rattle.span_steps.proofs.clock.move_logs.Given as goal

abbrev pub invariant-loop-log : goal.invariant-loop-log
invariant-loop-log l = l.logs ≡ map (move_log l.delta) (take l.log-index l.fn.logs) ++ drop l.log-index l.fn.logs
