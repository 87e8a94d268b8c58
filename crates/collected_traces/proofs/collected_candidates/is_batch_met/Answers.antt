use Rattle.std.proofs.Common.{◌∙◌, sym, ap}
use Rattle.std.specs.List.{list_any}
use Rattle.std.proofs.lemmas.List.{take_all}
use Rattle.collected_traces.specs.ProcessConditions.{meets}
use Rattle.collected_traces.proofs.TracesAtSpots.{none_yet, one_now, batch_met}
use Rattle.collected_traces.proofs.collected_candidates.is_batch_met.Goals as goal

pub loop-span-preserved : goal.loop-span-preserved
loop-span-preserved c =
    record {
      none =
          none_yet (meets c.args.prepared.now c.get-process.result.now)
          c.as_slice-spans.result.now c.loop-span.span-index c.span-item.result c.loop-span-test.true c.span-item.is c.loop-span.invariant.none
          (sym c.in_ok-is_met.ensures ∙ c.if-is_met.false);
      judged = c.loop-span.invariant.judged;
    }

pub returns-then-is_met : goal.returns-then-is_met
returns-then-is_met c =
    let q = c.args.prepared.now in
    let here = one_now (meets q c.get-process.result.now)
    c.as_slice-spans.result.now c.loop-span.span-index c.span-item.result c.loop-span-test.true c.span-item.is
    (sym c.in_ok-is_met.ensures ∙ c.if-is_met.true) in
    sym here ∙ (λ i. list_any (meets q (c.get-process.ensures i)) (c.as_slice-spans.ensures i)) ∙ batch_met q c.args.batch.now

pub returns : goal.returns
returns c =
    let q = c.args.prepared.now in
    let none = sym c.loop-span.invariant.none
    ∙ ap (list_any (meets q c.get-process.result.now)) (take_all c.loop-span.span-index c.as_slice-spans.result.now c.loop-span-test.false) in
    none ∙ (λ i. list_any (meets q (c.get-process.ensures i)) (c.as_slice-spans.ensures i)) ∙ batch_met q c.args.batch.now
