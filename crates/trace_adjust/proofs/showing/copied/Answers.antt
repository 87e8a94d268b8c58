use Rattle.std.proofs.Common.{◌∙◌, ◌++◌, ◌∷◌, [], sym, ap}
use Rattle.trace_model.proofs.TakenSpans.{some_next}
use Rattle.trace_adjust.proofs.showing.copied.Goals as goal

pub loop-span-preserved : goal.loop-span-preserved
loop-span-preserved c =
    let i = c.loop-span.span-index in
    c.in_ok-push.ensures.items ∙ ap (λ l. l ++ c.in_ok-placed.placed ∷ []) c.loop-span.invariant
    ∙ some_next c.args.taken.now i c.span-item.result c.in_ok-placed.placed c.loop-span-test.true c.span-item.is (sym c.in_ok-placed.ensures)
