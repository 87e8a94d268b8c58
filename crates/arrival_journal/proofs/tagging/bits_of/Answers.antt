use Rattle.std.proofs.Common.{◌∙◌, ap, sym, flat_map}
use Rattle.std.proofs.lemmas.List.Sums.{fold-append}
use Rattle.std.specs.List.{fold}
use Rattle.jaeger_model.specs.declared.batch.Process.{Process}
use Rattle.arrival_journal.specs.TagBits.{no_bits, with_tag, own_tags}
use Rattle.arrival_journal.proofs.tagging.bits_of.Goals as goal

pub returns : goal.returns
returns c =
    let b = c.args.batch.now in
    let own = c.as_slice.ensures ∙ ap (λ (p : Process). p.tags) c.get.ensures in
    c.add_spans.ensures ∙ (λ i. fold with_tag
    ((c.add_tags.ensures ∙ (λ j. fold with_tag (c.no_bits-bits.ensures j) (own j))) i)
    (flat_map own_tags (c.as_slice-2.ensures i)))
    ∙ sym (fold-append with_tag no_bits b.process.tags (flat_map own_tags b.spans))
