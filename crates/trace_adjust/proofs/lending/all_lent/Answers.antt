use Rattle.std.proofs.Common.{◌∙◌, ◌++◌, ◌∷◌, [], map, sym, ap, take}
use Rattle.std.proofs.lemmas.List.{map_push}
use Rattle.trace_model.specs.Adjusting.{with_parent_first}
use Rattle.trace_model.specs.BorrowedSpans.{placed_by_its_entry}
use Rattle.trace_model.specs.TakenSpans.{placed_taken}
use Rattle.trace_model.proofs.TakenSpans.{some_next}
use Rattle.trace_adjust.proofs.lending.all_lent.Goals as goal

pub loop-span-preserved : goal.loop-span-preserved
loop-span-preserved c =
    let ts = c.args.spans.now in
    let i = c.loop-span.span-index in
    let p = placed_by_its_entry c.reported.result in
    c.in_ok-push.ensures.items ∙ (λ j. c.loop-span.invariant j ++ c.with_parent_first.ensures j ∷ [])
    ∙ sym (map_push with_parent_first (placed_taken (take i ts)) p)
    ∙ ap (map with_parent_first) (some_next ts i c.span-item.result p c.loop-span-test.true c.span-item.is (sym c.reported.ensures))
