use Rattle.std.proofs.Common.{◌∙◌, [], List, ap, sym, subst, length}
use Rattle.std.specs.Prelude.{slice_index_or}
use Rattle.trace_model.specs.TakenSpans.{Taken}
use Rattle.collected_traces.specs.TraceParts.{cut_at, AreStarts}
use Rattle.collected_traces.proofs.taken.TakenTraces.trace.Goals as goal

pub trace_part-requires : goal.trace_part-requires
trace_part-requires c =
    let was = c.self.inside in
    subst (λ xs. AreStarts (length xs) c.deref-2.result.now) (sym c.deref.ensures.value)
    (subst (AreStarts (length was.spans.items)) (sym c.deref-2.ensures.value) c.self.invariant)

pub returns : goal.returns
returns c =
    c.trace_part.ensures ∙ (λ i. slice_index_or (cut_at (c.deref.ensures.value i) (c.deref-2.ensures.value i)) c.args.index [])
    ∙ ap (λ (ts : List (List Taken)). slice_index_or ts c.args.index []) c.self.view_is
