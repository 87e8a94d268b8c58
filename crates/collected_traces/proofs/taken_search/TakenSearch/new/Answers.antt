use Rattle.collected_traces.specs.CollectedCandidates.{process_numbered}
use Rattle.collected_traces.proofs.taken_search.TakenSearch.new.Goals as goal

pub invariant_of-result : goal.invariant_of-result
invariant_of-result c = record {
  judged = c.in_ok-judged.ensures;
  leads = c.of_all.ensures (process_numbered c.args.candidates.now.entries);
}
