-- The lines of a trace that was found, or not.
use Rattle.std.proofs.Common.{◌≡◌, List, [], ◌∷◌, ◌++◌, map, Option, Some, None, refl, ap, ◌∙◌, codes}
use Rattle.std.specs.Prelude.{flat_map, option_map}
use Rattle.jaeger_model.specs.declared.placed.Placed.{Placed}
use Rattle.trace_model.specs.declared.answer.Shown.{Shown}
use Rattle.trace_model.specs.Adjusting.{unadjusted}
use Rattle.commands.specs.GetRuns.{shown_line, span_line, trace_lines}

same_lines : (ps : List Placed) → flat_map shown_line (map unadjusted ps) ≡ flat_map span_line ps
same_lines [] = refl
same_lines (p ∷ ps) = ap (λ t. span_line p ++ t) (same_lines ps)

lines_of_found : (found : Option (List Placed)) (spans : List Shown) → Some spans ≡ option_map (map unadjusted) found
    → flat_map shown_line spans ≡ trace_lines found
lines_of_found None spans is = absurd cc
lines_of_found (Some ps) spans is =
    let same : spans ≡ map unadjusted ps = cc in
    ap (flat_map shown_line) same ∙ same_lines ps

pub text_found : (found : Option (List Placed)) (spans now : List Shown) → now ≡ spans → Some spans ≡ option_map (map unadjusted) found
    → flat_map shown_line now ≡ trace_lines found
text_found found spans now same is = ap (flat_map shown_line) same ∙ lines_of_found found spans is

pub text_lost : (found : Option (List Placed)) → None ≡ option_map (map unadjusted) found → codes "trace not found\n" ≡ trace_lines found
text_lost None is = refl
text_lost (Some ps) is = absurd cc
