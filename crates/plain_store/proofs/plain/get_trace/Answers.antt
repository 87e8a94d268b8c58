use Rattle.std.proofs.Common.{rules, ◌≡◌, ◌∙◌, ap, sym, map, length}
use Rattle.std.specs.Arc.{arc_value}
use Rattle.trace_model.specs.Histories.{events}
use Rattle.trace_model.specs.ShownSpans.{of_trace, shown}
use Rattle.plain_store.proofs.FoundAnswers.{none_if_empty, some_if_not_empty}
use Rattle.plain_store.proofs.plain.get_trace.Goals as goal

pub returns-then-is_empty : goal.returns-then-is_empty
returns-then-is_empty c =
    let all : c.in_ok-all_shown.field-0.spans.items ≡ shown c.args.limits.traces (events (map arc_value c.args.entries.now)) =
    c.in_ok-all_shown.ensures.spans_are ∙ ap (shown c.args.limits.traces) c.in_ok-happened.ensures in
    let none : length c.keep_trace-spans.result.items ≡ 0 = search rules in
    none_if_empty (sym (c.keep_trace-spans.ensures ∙ ap (of_trace c.args.id) all)) none

pub returns : goal.returns
returns c =
    let all : c.in_ok-all_shown.field-0.spans.items ≡ shown c.args.limits.traces (events (map arc_value c.args.entries.now)) =
    c.in_ok-all_shown.ensures.spans_are ∙ ap (shown c.args.limits.traces) c.in_ok-happened.ensures in
    some_if_not_empty (sym (c.keep_trace-spans.ensures ∙ ap (of_trace c.args.id) all)) (search rules)
