use Rattle.std.proofs.Common.{◌≡◌, ◌+◌, ◌∙◌, ap, map, rules, sym, to_z, of_z, w64}
use Rattle.std.specs.Fmt.{decimal, signed_decimal}
use Rattle.json.specs.Print.{escape, escape_byte, quoted}
use Rattle.serde_json.specs.Written.{compact_text}
use Rattle.jaeger_model.specs.Ids.{span_text, trace_text}
use Rattle.answer_trees.specs.Trees.{flags_number, list, log_tree, span_tree, tag_tree, warnings_tree}
use Rattle.query_json.proofs.IntegerTexts.{integer_text}
use Rattle.answer_trees.specs.TraceProcesses.{process_place}
use Rattle.json_page.proofs.Pages.{◌▸◌, Puts-is}
use Rattle.query_json.proofs.Pages.{put_tree-text}
use Rattle.query_json.proofs.SpanTexts.{named_put}
use Rattle.query_json.proofs.writing.span.write_span.Goals as goal

pub returns : goal.returns
unfolding escape_byte
returns c = λ ps is.
    let shown = c.args.lent.now in
    let span = shown.placed.span in
    let lent = c.span-span.ensures in
    let duration = Puts-is c.push_signed_ref.ensures (ap signed_decimal lent.duration ∙ sym (integer_text span.duration)) in
    let flags = Puts-is c.write_flags.ensures (ap (λ f. decimal (flags_number f)) lent.flags) in
    let logs = Puts-is c.write_list.ensures (ap (λ ls. compact_text (list (map log_tree ls))) c.logs.ensures) in
    let operation = Puts-is c.push_escaped.ensures (ap escape (c.as_str.ensures.value ∙ lent.operation)) in
    let number = Puts-is c.push_unsigned.ensures (ap decimal is) in
    let id = Puts-is c.write.ensures (ap (λ i. quoted (span_text i)) lent.id) in
    let read : to_z w64 (of_z w64 c.start.result) ≡ span.start = search rules in
    let start = Puts-is c.push_signed.ensures (ap signed_decimal read ∙ sym (integer_text span.start)) in
    let tags = Puts-is c.write_tags.ensures (ap (λ ts. compact_text (list (map tag_tree ts))) (c.as_slice.ensures ∙ lent.tags)) in
    let trace = Puts-is c.write-2.ensures (ap (λ t. quoted (trace_text t)) lent.trace) in
    let warnings = Puts-is c.write_warnings.ensures (ap (λ ws. compact_text (warnings_tree ws)) (sym c.warning.ensures)) in
    let front = c.push_str.ensures ▸ duration ▸ c.push_str-2.ensures ▸ flags ▸ c.push_str-3.ensures ▸ logs in
    Puts-is
    (named_put span.operation (process_place ps shown + 1) front c.push_str-4.ensures operation c.push_str-5.ensures number c.push_str-6.ensures
    ▸ c.write_list-2.ensures ▸ c.push_str-7.ensures ▸ id ▸ c.push_str-8.ensures ▸ start ▸ c.push_str-9.ensures ▸ tags ▸ c.push_str-10.ensures ▸ trace ▸
    c.push_str-11.ensures ▸ warnings ▸ c.push_str-12.ensures)
    (put_tree-text (span_tree ps shown))
