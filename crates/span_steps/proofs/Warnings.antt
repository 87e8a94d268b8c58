-- The span as it is shown, by its warning.
use Rattle.std.proofs.Common.{◌≡◌, ℕ, ℤ, pos, Bool, true, false, List, [], ◌∷◌, ◌++◌, refl, sym, ap, ◌∙◌, nat_le, nat_abs}
use Rattle.std.specs.Prelude.{Option, Some, None, not, if◌then◌else◌}
use Rattle.std.specs.Ordering.{int_eq}
use Rattle.std.proofs.lemmas.List.{append-nil}
use Rattle.jaeger_model.specs.declared.placed.Placed.{Placed}
use Rattle.jaeger_model.specs.declared.span.Span.{Span}
use Rattle.trace_model.specs.Adjusting.{unadjusted, warned, past_limit, past_times, adjusted_by, all_fit, moved, moved_placed, said_after, shifted}
use Rattle.trace_model.specs.declared.answer.Shown.{Shown}
use Rattle.span_steps.specs.declared.warning.Warning.{Warning}
use Rattle.span_steps.specs.declared.warning.Warning.TheVariants.{Adjusted, PastLimit, PastTimes}
use Rattle.span_steps.specs.Warnings.{warning_of, warning_text, shown_with_warning}

by_tests : (m : ℕ) (d : ℤ) (p : Placed) (none within fit : Bool)
    → shown_with_warning (if none then None else if not within then Some (PastLimit d m) else if not fit then Some (PastTimes d) else Some (Adjusted d)) p
    ≡ (if none then unadjusted p else if not within then warned p (past_limit d m) else if not fit then warned p (past_times d) else warned (moved_placed d p)
    (adjusted_by d))
by_tests m d p true within fit = refl
by_tests m d p false false fit = refl
by_tests m d p false true false = refl
by_tests m d p false true true = refl

pub shown_is : (m : ℕ) (d : ℤ) (p : Placed) → shown_with_warning (warning_of m d p.span) p ≡ shifted m d p
shown_is m d p = by_tests m d p (int_eq d (pos 0)) (nat_le (nat_abs d) m) (all_fit d p.span)

-- a span whose clock's delta is 0 has no warning
pub nothing_said : (m : ℕ) (d : ℤ) (s : Shown) (o : Option Warning) → o ≡ warning_of m d s.placed.span → o ≡ None → s ≡ said_after s (shifted m d s.placed)
nothing_said m d s o e none =
    (λ i. record { placed = s.placed; warnings = sym (append-nil s.warnings) i })
    ∙ ap (said_after s) (ap (λ r. shown_with_warning r s.placed) (sym none ∙ e) ∙ shown_is m d s.placed)

said : (m : ℕ) (d : ℤ) (s : Shown) (w : Warning) → Some w ≡ warning_of m d s.placed.span
    → said_after s (shown_with_warning (Some w) s.placed) ≡ said_after s (shifted m d s.placed)
said m d s w e = ap (said_after s) (ap (λ r. shown_with_warning r s.placed) e ∙ shown_is m d s.placed)

unmoved : (w : Warning) (p : Placed) → ((d : ℤ) → w ≡ Adjusted d → ⊥) → shown_with_warning (Some w) p ≡ warned p (warning_text w)
unmoved (Adjusted d) p other = absurd (other d refl)
unmoved (PastLimit d m) p other = refl
unmoved (PastTimes d) p other = refl

pub unmoved_said : (m : ℕ) (d : ℤ) (s : Shown) (w : Warning) (warnings : List (List ℕ)) → Some w ≡ warning_of m d s.placed.span
    → ((by : ℤ) → w ≡ Adjusted by → ⊥) → warnings ≡ s.warnings ++ warning_text w ∷ []
    → record { placed = s.placed; warnings = warnings } ≡ said_after s (shifted m d s.placed)
unmoved_said m d s w warnings e other put =
    (λ i. record { placed = s.placed; warnings = put i })
    ∙ ap (said_after s) (sym (unmoved w s.placed other)) ∙ said m d s w e

pub moved_said : (m : ℕ) (d by : ℤ) (s : Shown) (w : Warning) (span : Span) (warnings : List (List ℕ)) → Some w ≡ warning_of m d s.placed.span
    → w ≡ Adjusted by → span ≡ moved by s.placed.span → warnings ≡ s.warnings ++ warning_text w ∷ []
    → record { placed = record { process = s.placed.process; span = span }; warnings = warnings } ≡ said_after s (shifted m d s.placed)
moved_said m d by s w span warnings e is here put =
    (λ i. record { placed = record { process = s.placed.process; span = here i }; warnings = (put ∙ ap (λ v. s.warnings ++ warning_text v ∷ []) is) i })
    ∙ ap (λ v. said_after s (shown_with_warning (Some v) s.placed)) (sym is) ∙ said m d s w e
