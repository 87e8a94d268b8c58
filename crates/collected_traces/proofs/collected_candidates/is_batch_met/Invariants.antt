use Rattle.std.proofs.Common.{◌≡◌, false, take}
use Rattle.std.specs.List.{list_any}
use Rattle.collected_traces.specs.ProcessConditions.{meets, IsJudgedAs}
use Rattle.collected_traces.proofs.collected_candidates.is_batch_met.Given as goal

abbrev pub invariant-loop-span : goal.invariant-loop-span
invariant-loop-span l = record {
  none : list_any (meets l.prepared l.process) (take l.span-index l.spans) ≡ false;
  judged : IsJudgedAs l.prepared l.process l.judged;
}
