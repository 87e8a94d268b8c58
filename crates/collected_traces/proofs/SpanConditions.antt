-- The conditions of a search on a span, and on its process with its tags.
use Rattle.std.proofs.Common.{◌≡◌, ◌∙◌, Bool, true, false, ◌&&◌, refl, sym, ap}
use Rattle.std.specs.List.{list_all}
use Rattle.trace_model.specs.declared.query.Find.{Find}
use Rattle.jaeger_model.specs.declared.placed.Placed.{Placed}
use Rattle.jaeger_model.specs.Texts.{same_text}
use Rattle.trace_model.specs.Searching.{matches, is_timed, has_tag}
use Rattle.span_steps.specs.SpanConditions.{meets_span_conditions, has_operation}
use Rattle.collected_traces.specs.ProcessConditions.{of_service_with_tags}

regroup : (s o t l : Bool) → (((s && o) && t) && l) ≡ ((o && t) && (s && l))
regroup true o t l = refl
regroup false true true l = refl
regroup false true false l = refl
regroup false false t l = refl

-- a search's conditions are those on the span, and those on its process and tags
pub matches_parts : (q : Find) (p : Placed) → matches q p ≡ (meets_span_conditions q p && (of_service_with_tags q p))
matches_parts q p = regroup (same_text q.service p.process.service) (has_operation q p) (is_timed q p) (list_all (has_tag p) q.tags)

pub fails_span : (q : Find) (p : Placed) → meets_span_conditions q p ≡ false → matches q p ≡ false
fails_span q p e = matches_parts q p ∙ ap (λ b. b && of_service_with_tags q p) e

pub passes_span : (q : Find) (p : Placed) → meets_span_conditions q p ≡ true → of_service_with_tags q p ≡ matches q p
passes_span q p e = sym (matches_parts q p ∙ ap (λ b. b && of_service_with_tags q p) e)
