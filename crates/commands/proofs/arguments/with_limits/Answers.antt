use Rattle.std.proofs.Common.{ap, ap₂, ◌≡◌, ◌∙◌, pos, codes}
use Rattle.std.proofs.lemmas.Result.{IfOk-weaker}
use Rattle.clap.specs.Words.{app_of, rule_of, with_rule}
use Rattle.clap.specs.declared.builder.value_parser.ValueParser.TheVariants as parser
use Rattle.commands.specs.Arguments.{number_rule, batches_rule, spans_rule, traces_rule, skew_rule}
use Rattle.commands.proofs.arguments.with_limits.Goals as goal

pub returns : goal.returns
returns c =
    let made : c.range-batches.result ≡ parser.Signed (pos 1) (pos 1000000) =
    rw (c.value_parser.ensures, c.new.ensures.start, c.new.ensures.end) at c.range-batches.ensures in
    let made-2 : c.range-spans.result ≡ parser.Signed (pos 1) (pos 10000000) =
    rw (c.value_parser-2.ensures, c.new-2.ensures.start, c.new-2.ensures.end) at c.range-spans.ensures in
    let made-3 : c.range-traces.result ≡ parser.Signed (pos 0) (pos 1000000) =
    rw (c.value_parser-3.ensures, c.new-3.ensures.start, c.new-3.ensures.end) at c.range-traces.ensures in
    let made-4 : c.range-skew.result ≡ parser.Unsigned 0 9223372036854775807 =
    rw (c.value_parser-4.ensures, c.new-4.ensures.end, c.new-4.ensures.start) at c.range-skew.ensures in
    let batches : rule_of c.number.result ≡ batches_rule = c.number.ensures.rule ∙ ap (λ p. number_rule (codes "batches") p (codes "1000")) made in
    let spans : rule_of c.number-2.result ≡ spans_rule = c.number-2.ensures.rule ∙ ap (λ p. number_rule (codes "spans") p (codes "100000")) made-2 in
    let traces : rule_of c.number-3.result ≡ traces_rule = c.number-3.ensures.rule ∙ ap (λ p. number_rule (codes "traces") p (codes "0")) made-3 in
    let skew : rule_of c.number-4.result ≡ skew_rule = c.number-4.ensures.rule ∙ ap (λ p. number_rule (codes "max-skew") p (codes "0")) made-4 in
    IfOk-weaker c.arg-4.result _ _ (λ r added. added.shape c.number-4.ensures.own
    ∙ ap₂ with_rule (c.in_ok-arg-3.ensures.shape c.number-3.ensures.own
    ∙ ap₂ with_rule (c.in_ok-arg-2.ensures.shape c.number-2.ensures.own
    ∙ ap₂ with_rule (c.in_ok-arg.ensures.shape c.number.ensures.own ∙ ap (with_rule (app_of c.args.command)) batches) spans) traces) skew) c.arg-4.ensures
