use Rattle.std.proofs.Common.{◌∙◌, take}
use Rattle.arrival_journal.specs.TagBits.{tag_place, with_bit}
use Rattle.journal_traces.specs.SkippedEntries.{requested_bits}
use Rattle.journal_traces.proofs.TagMasks.{mask_more}
use Rattle.journal_traces.proofs.pruning.requested_bits.Goals as goal

pub loop-pair-preserved : goal.loop-pair-preserved
loop-pair-preserved c =
    let before = requested_bits (take c.loop-pair.pair-index c.args.asked.now) in
    c.set_bit.ensures ∙ (λ i. with_bit (c.loop-pair.invariant i) (c.tag_place.ensures.exact i))
    ∙ (λ i. with_bit before (tag_place (c.as_str.ensures.value i) (c.as_str-in-loop-pair.ensures.value i)))
    ∙ mask_more c.args.asked.now c.loop-pair.pair-index c.pair-item.result c.loop-pair-test.true c.pair-item.is
