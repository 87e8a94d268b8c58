use Rattle.std.proofs.Common.{◌∙◌, [], sym, subst, length}
use Rattle.std.specs.Prelude.{slice_index_or}
use Rattle.collected_traces.specs.TraceParts.{cut_at, AreStarts}
use Rattle.journal_traces.proofs.window_traces.spots_of.Goals as goal

pub trace_part-requires : goal.trace_part-requires
trace_part-requires c =
    let taken = c.args.taken.now in
    subst (λ xs. AreStarts (length xs) c.deref-2.result.now) (sym c.deref.ensures.value)
    (subst (AreStarts (length taken.spots.items)) (sym c.deref-2.ensures.value) c.requires)

pub returns : goal.returns
returns c = c.trace_part.ensures ∙ (λ i. slice_index_or (cut_at (c.deref.ensures.value i) (c.deref-2.ensures.value i)) c.args.index [])
