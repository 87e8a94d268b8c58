-- What a reference to the parent in front leaves unchanged, and what is borrowed.
use Rattle.std.proofs.Common.{◌≡◌, ℕ, ◌<◌, List, length, ap, ◌∙◌, subst}
use Rattle.std.specs.Prelude.{Some}
use Rattle.jaeger_model.specs.declared.span.Span.{Span}
use Rattle.jaeger_model.specs.declared.span.SpanRef.{SpanRef}
use Rattle.jaeger_model.specs.Parents.{parent}
use Rattle.trace_model.specs.Adjusting.{to_front, parent_place}
use Rattle.trace_model.proofs.FirstReferences.{parent_stays}
use Rattle.trace_adjust.specs.declared.lent_placed.ParentReference.TheVariants.{MovedFirst}
use Rattle.trace_adjust.specs.LentReferences.{IsReferred}

pub put_in_front : (s : Span) (rs : List SpanRef) (i : ℕ) → rs ≡ s.references → Some i ≡ parent_place s.trace rs → i < length rs → IsReferred (MovedFirst i) s
put_in_front s rs i same place within = record {
  parent_stays = ap (λ o. parent (record s { references = to_front o s.references })) (place ∙ ap (parent_place s.trace) same) ∙ parent_stays s;
  place = subst (λ (xs : List SpanRef). i < length xs) same within;
}
