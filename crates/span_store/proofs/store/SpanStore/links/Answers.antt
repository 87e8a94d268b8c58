use Rattle.std.proofs.Common.{◌∙◌, ap, w64}
use Rattle.std.proofs.lemmas.Int.{to_z-of_z}
use Rattle.trace_model.specs.declared.answer.Answer.TheVariants as say
use Rattle.span_store.proofs.store.SpanStore.links.Goals as goal

pub returns : goal.returns
returns c =
    let e = to_z-of_z w64 c.args.end_ms c.ranges.end_ms in
    let l = to_z-of_z w64 c.args.lookback_ms c.ranges.lookback_ms in
    c.new.ensures ∙ ap say.Links (rw (e, l) at c.in_ok-taken.ensures.links)
