use Rattle.std.proofs.Common.{◌∙◌, ap}
use Rattle.std.proofs.lemmas.List.{take_all}
use Rattle.std.specs.List.{fold}
use Rattle.jaeger_model.specs.declared.span.Log.{Log}
use Rattle.arrival_journal.specs.TagBits.{with_tag, fields_of}
use Rattle.arrival_journal.proofs.MoreTagBits.{tags_more}
use Rattle.arrival_journal.proofs.tagging.add_logs.Goals as goal

pub loop-log-preserved : goal.loop-log-preserved
loop-log-preserved c =
    c.add_tags.ensures ∙ (λ i. fold with_tag (c.loop-log.invariant i) (c.as_slice.ensures i))
    ∙ tags_more (λ (l : Log). l.fields) c.args.bits.now c.args.logs.now c.loop-log.log-index c.log-item.result c.loop-log-test.true c.log-item.is

pub returns : goal.returns
returns c =
    c.loop-log.invariant ∙ ap (λ ls. fold with_tag c.args.bits.now (fields_of ls)) (take_all c.loop-log.log-index c.args.logs.now c.loop-log-test.false)
