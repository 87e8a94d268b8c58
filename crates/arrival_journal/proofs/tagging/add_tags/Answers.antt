use Rattle.std.proofs.Common.{◌∙◌, ap}
use Rattle.std.proofs.lemmas.List.{take_all}
use Rattle.std.specs.List.{fold}
use Rattle.arrival_journal.specs.TagBits.{with_bit, with_tag}
use Rattle.arrival_journal.proofs.MoreTagBits.{tag_more}
use Rattle.arrival_journal.proofs.tagging.add_tags.Goals as goal

pub loop-tag-preserved : goal.loop-tag-preserved
loop-tag-preserved c =
    c.set_bit.ensures ∙ (λ i. with_bit (c.loop-tag.invariant i) (c.bit_of_tag.ensures.exact i))
    ∙ tag_more c.args.bits.now c.args.tags.now c.loop-tag.tag-index c.tag-item.result c.loop-tag-test.true c.tag-item.is

pub returns : goal.returns
returns c =
    c.loop-tag.invariant ∙ ap (fold with_tag c.args.bits.now) (take_all c.loop-tag.tag-index c.args.tags.now c.loop-tag-test.false)
