use Rattle.std.proofs.Common.{◌∙◌, ap, map, take}
use Rattle.std.proofs.lemmas.List.{take_all, take_min}
use Rattle.jaeger_model.specs.Tags.{kind_of}
use Rattle.arrival_journal.proofs.span_kinds.SpanKinds.of.Goals as goal

pub returns : goal.returns
returns c =
    let spans = c.args.spans.now in
    c.loop-span.invariant ∙ ap (map kind_of)
    (take_all c.loop-span.span-index (take c.min.result spans) c.loop-span-test.false ∙ ap (λ n. take n spans) c.min.ensures ∙ take_min 32 spans)
