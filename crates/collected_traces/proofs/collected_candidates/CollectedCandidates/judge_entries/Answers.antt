use Rattle.std.proofs.Common.{◌≡◌, ◌∙◌, List, ap, subst}
use Rattle.trace_model.specs.declared.entry.Entry.{Entry}
use Rattle.collected_traces.specs.CollectedCandidates.{CandidatesValue, AreJudgedEntries, entries_shared}
use Rattle.collected_traces.proofs.collected_candidates.CollectedCandidates.judge_entries.Goals as goal

pub returns : goal.returns
returns c =
    let own : entries_shared c.deref.result.now ≡ c.args.self.now.entries =
    ap entries_shared c.deref.ensures.value ∙ ap (λ (s : CandidatesValue). s.entries) c.self.view_is in
    subst (λ (es : List Entry). AreJudgedEntries c.args.prepared.now es c.in_ok-judged.judged) own c.in_ok-judged.ensures
