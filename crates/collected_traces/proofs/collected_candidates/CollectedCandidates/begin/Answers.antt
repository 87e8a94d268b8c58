use Rattle.std.proofs.Common.{◌≡◌, ◌∙◌, ◌++◌, ◌∷◌, [], ap, subst, sym, length, arith}
use Rattle.std.proofs.lemmas.List.{length-map}
use Rattle.collected_traces.specs.TraceParts.{cut_at, AreStarts}
use Rattle.collected_traces.specs.CollectedCandidates.{CandidatesValue, entries_shared, taken_spotted, trace_spotted}
use Rattle.collected_traces.proofs.TraceParts.{cut_begin, starts_begin}
use Rattle.collected_traces.proofs.collected_candidates.CollectedCandidates.begin.Goals as goal

pub invariant_of-self-2 : goal.invariant_of-self-2
invariant_of-self-2 c =
    let was = c.self.inside in
    let start : c.len-start.result ≡ length was.spots.items = omega arith in
    let put = c.in_ok-push.ensures.items ∙ ap (λ n. was.starts.items ++ n ∷ []) start in
    record {
      ordered = subst (AreStarts (length was.spots.items)) (sym put) (starts_begin (length was.spots.items) was.starts.items c.self.invariant.ordered);
      correct = c.self.invariant.correct;
      within = c.self.invariant.within;
    }

pub returns-clause-traces : goal.returns-clause-traces
returns-clause-traces c =
    let was = c.self.inside in
    let es = entries_shared was.entries.items in
    let xs = trace_spotted es was.spots.items in
    let start : c.len-start.result ≡ length was.spots.items = omega arith in
    let put = c.in_ok-push.ensures.items ∙ ap (λ n. was.starts.items ++ n ∷ []) (start ∙ sym (length-map was.spots.items (taken_spotted es))) in
    ap (cut_at xs) put ∙ cut_begin xs was.starts.items ∙ ap (λ (s : CandidatesValue). s.traces ++ [] ∷ []) c.self.view_is
