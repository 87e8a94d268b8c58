use Rattle.std.proofs.Common.{◌∙◌, [], ap, sym, subst, length}
use Rattle.std.specs.Prelude.{slice_index_or}
use Rattle.collected_traces.specs.TraceParts.{cut_at, AreStarts}
use Rattle.collected_traces.specs.CollectedCandidates.{CandidatesValue, entries_shared, trace_spotted}
use Rattle.collected_traces.proofs.TracesAtSpots.{part_spotted}
use Rattle.collected_traces.proofs.collected_candidates.CollectedCandidates.spots.Goals as goal

pub trace_part-requires : goal.trace_part-requires
trace_part-requires c =
    let was = c.self.inside in
    subst (λ xs. AreStarts (length xs) c.deref-2.result.now) (sym c.deref.ensures.value)
    (subst (AreStarts (length was.spots.items)) (sym c.deref-2.ensures.value) c.self.invariant.ordered)

pub returns : goal.returns
returns c =
    let was = c.self.inside in
    let es = entries_shared was.entries.items in
    ap (λ (s : CandidatesValue). trace_spotted s.entries c.trace_part.result.now) (sym c.self.view_is)
    ∙ ap (trace_spotted es) (c.trace_part.ensures
    ∙ (λ i. slice_index_or (cut_at (c.deref.ensures.value i) (c.deref-2.ensures.value i)) c.args.index []))
    ∙ part_spotted es was.spots.items was.starts.items c.args.index
    ∙ ap (λ (s : CandidatesValue). slice_index_or s.traces c.args.index []) c.self.view_is
