-- The warning about a span by the delta of its clock, and the span as it is shown with that warning.
use Rattle.std.specs.Prelude.{ℕ, ℤ, pos, IsTrue, not, nat_abs, nat_le, List, [], ◌∷◌, Option, Some, None, if◌then◌else◌}
use Rattle.std.specs.Ordering.{int_eq}
use Rattle.jaeger_model.specs.declared.placed.Placed.{Placed}
use Rattle.jaeger_model.specs.declared.span.Span.{Span}
use Rattle.trace_model.specs.declared.answer.Shown.{Shown}
use Rattle.trace_model.specs.Adjusting.{all_fit, moved_placed, unadjusted, warned, past_limit, past_times, adjusted_by}
use Rattle.span_steps.specs.declared.warning.Warning.{Warning}
use Rattle.span_steps.specs.declared.warning.Warning.TheVariants.{Adjusted, PastLimit, PastTimes}

-- by the limit and by the span's times
abbrev pub warning_of : ℕ → ℤ → Span → Option Warning
warning_of max_skew d s =
    if int_eq d (pos 0) then None
    else if not (nat_le (nat_abs d) max_skew) then Some (PastLimit d max_skew)
    else if not (all_fit d s) then Some (PastTimes d)
    else Some (Adjusted d)

abbrev pub warning_text : Warning → List ℕ
warning_text (Adjusted d) = adjusted_by d
warning_text (PastLimit d max_skew) = past_limit d max_skew
warning_text (PastTimes d) = past_times d

abbrev pub warning_texts : Option Warning → List (List ℕ)
warning_texts None = []
warning_texts (Some w) = warning_text w ∷ []

-- the span as it is shown, with its warning
abbrev pub shown_with_warning : Option Warning → Placed → Shown
shown_with_warning None p = unadjusted p
shown_with_warning (Some (Adjusted d)) p = warned (moved_placed d p) (adjusted_by d)
shown_with_warning (Some (PastLimit d max_skew)) p = warned p (past_limit d max_skew)
shown_with_warning (Some (PastTimes d)) p = warned p (past_times d)

-- a span that is moved has no time that leaves the range of times
abbrev pub CanMove : Option Warning → Span → Type 0
CanMove None s = Unit {0}
CanMove (Some (Adjusted d)) s = IsTrue (all_fit d s)
CanMove (Some (PastLimit d max_skew)) s = Unit {0}
CanMove (Some (PastTimes d)) s = Unit {0}
