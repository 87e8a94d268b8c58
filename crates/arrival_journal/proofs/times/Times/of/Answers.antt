use Rattle.std.proofs.Common.{◌∙◌, ap}
use Rattle.std.proofs.lemmas.List.{take_all}
use Rattle.arrival_journal.specs.Times.{times_of, times_with}
use Rattle.arrival_journal.proofs.MoreSpans.{widened}
use Rattle.arrival_journal.proofs.times.Times.of.Goals as goal

pub loop-span-preserved : goal.loop-span-preserved
loop-span-preserved c =
    c.with-times.ensures ∙ ap (λ t. times_with t c.span-item.result) c.loop-span.invariant
    ∙ widened c.args.spans.now c.loop-span.span-index c.span-item.result c.loop-span-test.true c.span-item.is

pub returns : goal.returns
returns c = c.loop-span.invariant ∙ ap times_of (take_all c.loop-span.span-index c.args.spans.now c.loop-span-test.false)
