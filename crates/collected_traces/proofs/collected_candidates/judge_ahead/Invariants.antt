use Rattle.std.proofs.Common.{take}
use Rattle.std.specs.List.{AllZip}
use Rattle.collected_traces.specs.CollectedCandidates.{IsMatchFlagOf, entries_shared, process_numbered}
use Rattle.collected_traces.specs.TakenSearch.{AreJudged}
use Rattle.collected_traces.proofs.collected_candidates.judge_ahead.Given as goal

abbrev pub invariant-loop-number : goal.invariant-loop-number
invariant-loop-number l = record {
  flags : AllZip (IsMatchFlagOf l.prepared) (take l.number l.entries) l.judged.flags.items;
  processes : AreJudged l.prepared (process_numbered (entries_shared l.entries)) l.judged.processes;
}
