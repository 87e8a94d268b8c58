use Rattle.std.proofs.Common.{◌≡◌, map, take}
use Rattle.trace_model.specs.Adjusting.{adjusted}
use Rattle.collected_traces.specs.ProcessClasses.{ShareByClass}
use Rattle.trace_model.specs.TakenSpans.{placed_taken}
use Rattle.collected_traces.proofs.taken_answer.keep_all.Given as goal

abbrev pub invariant-loop-index : goal.invariant-loop-index
invariant-loop-index l = record {
  kept : l.kept.items ≡ map (adjusted l.max_skew) (take l.index (map placed_taken l.traces));
  classes : ShareByClass l.traces l.classes;
}
