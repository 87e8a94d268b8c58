use Rattle.std.proofs.Common.{◌∙◌, ◌++◌, ◌∷◌, [], ap, sym, subst, take}
use Rattle.std.proofs.lemmas.List.{take_more}
use Rattle.trace_model.specs.BorrowedSpans.{placed_by_its_entry}
use Rattle.trace_adjust.specs.LentSpans.{AreThere}
use Rattle.trace_adjust.proofs.ExistingSpans.{one_more_there}
use Rattle.trace_adjust.proofs.lending.see_each.Goals as goal

pub loop-span-preserved : goal.loop-span-preserved
loop-span-preserved c =
    let ts = c.args.spans.now in
    let i = c.loop-span.span-index in
    let t = c.span-item.result in
    subst AreThere (sym (take_more ts i t c.loop-span-test.true ∙ ap (λ u. take i ts ++ u ∷ []) (sym c.span-item.is)))
    (one_more_there (take i ts) t (placed_by_its_entry c.reported-reported.result) c.loop-span.invariant (sym c.reported-reported.ensures))
