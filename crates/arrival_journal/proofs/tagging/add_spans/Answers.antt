use Rattle.std.proofs.Common.{◌∙◌, ap, sym, take, flat_map}
use Rattle.std.proofs.lemmas.List.{take_all}
use Rattle.std.proofs.lemmas.List.Sums.{fold-append}
use Rattle.std.specs.List.{fold}
use Rattle.arrival_journal.specs.TagBits.{with_tag, own_tags, fields_of}
use Rattle.arrival_journal.proofs.MoreTagBits.{tags_more}
use Rattle.arrival_journal.proofs.tagging.add_spans.Goals as goal

pub loop-span-preserved : goal.loop-span-preserved
loop-span-preserved c =
    let s = c.span-item.result in
    c.add_logs.ensures ∙ (λ i.
    fold with_tag ((c.add_tags.ensures ∙ (λ j. fold with_tag (c.loop-span.invariant j) (c.as_slice.ensures j))) i)
    (fields_of (c.as_slice-in-loop-span.ensures i)))
    ∙ sym (fold-append with_tag (fold with_tag c.args.bits.now (flat_map own_tags (take c.loop-span.span-index c.args.spans.now))) s.tags (fields_of s.logs))
    ∙ tags_more own_tags c.args.bits.now c.args.spans.now c.loop-span.span-index s c.loop-span-test.true c.span-item.is

pub returns : goal.returns
returns c =
    c.loop-span.invariant ∙ ap (λ ss. fold with_tag c.args.bits.now (flat_map own_tags ss))
    (take_all c.loop-span.span-index c.args.spans.now c.loop-span-test.false)
