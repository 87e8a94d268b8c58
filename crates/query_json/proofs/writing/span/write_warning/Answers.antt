use Rattle.std.proofs.Common.{◌∙◌, ap, sym}
use Rattle.json.specs.Print.{quoted}
use Rattle.span_steps.specs.Warnings.{warning_text}
use Rattle.json_page.proofs.Pages.{◌▸◌, Puts-is}
use Rattle.query_json.proofs.Warnings.{adjusted_text, past_limit_text, past_times_text}
use Rattle.query_json.proofs.writing.span.write_warning.Goals as goal

pub returns-in-Adjusted : goal.returns-in-Adjusted
returns-in-Adjusted c =
    Puts-is (c.push_str.ensures ▸ c.push_delta.ensures ▸ c.push_str-in-Adjusted.ensures)
    (adjusted_text c.in-Adjusted.delta ∙ ap (λ w. quoted (warning_text w)) (sym c.in-Adjusted.is))

pub returns-in-PastTimes : goal.returns-in-PastTimes
returns-in-PastTimes c =
    Puts-is (c.push_str-in-PastTimes.ensures ▸ c.push_delta-in-PastTimes.ensures ▸ c.push_str-in-PastTimes-2.ensures)
    (past_times_text c.in-PastTimes.delta ∙ ap (λ w. quoted (warning_text w)) (sym c.in-PastTimes.is))

pub returns-in-PastLimit : goal.returns-in-PastLimit
returns-in-PastLimit c =
    Puts-is (c.push_str-in-PastLimit.ensures ▸ c.push_delta-in-PastLimit.ensures ▸ c.push_str-in-PastLimit-2.ensures ▸ c.push_unsigned.ensures ▸
    c.push_str-in-PastLimit-3.ensures)
    (past_limit_text c.in-PastLimit.delta c.in-PastLimit.max_skew ∙ ap (λ w. quoted (warning_text w)) (sym c.in-PastLimit.is))
