use Rattle.std.proofs.Common.{◌∙◌, ap}
use Rattle.collected_traces.specs.CollectedCandidates.{CandidatesValue, entries_shared}
use Rattle.collected_traces.proofs.collected_candidates.CollectedCandidates.entries.Goals as goal

pub returns : goal.returns
returns c = ap entries_shared c.deref.ensures.value ∙ ap (λ (s : CandidatesValue). s.entries) c.self.view_is
