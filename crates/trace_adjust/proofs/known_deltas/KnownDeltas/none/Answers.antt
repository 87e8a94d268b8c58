use Rattle.std.proofs.Common.{◌≡◌, ◌∙◌, pos, replicate, sym, subst}
use Rattle.trace_adjust.specs.declared.known_deltas.Mark.TheVariants.{Unknown}
use Rattle.trace_adjust.specs.KnownDeltas.{known_where, AreParts}
use Rattle.trace_adjust.proofs.KnownParts.{none_where, none_parts}
use Rattle.trace_adjust.proofs.known_deltas.KnownDeltas.none.Goals as goal

pub invariant_of-result : goal.invariant_of-result
invariant_of-result c =
    let n = c.args.count in
    let marks : c.in_ok-marks.marks.items ≡ replicate n Unknown = c.in_ok-marks.ensures.items_if_clones_equal (λ y e. e) in
    let deltas : c.in_ok-deltas.deltas.items ≡ replicate n (pos 0) = c.in_ok-deltas.ensures.items_if_clones_equal (λ y e. e) in
    subst (λ ms. AreParts ms c.in_ok-deltas.deltas.items) (sym marks) (subst (AreParts (replicate n Unknown)) (sym deltas) (none_parts n))

pub returns : goal.returns
returns c =
    let n = c.args.count in
    let marks : c.in_ok-marks.marks.items ≡ replicate n Unknown = c.in_ok-marks.ensures.items_if_clones_equal (λ y e. e) in
    let deltas : c.in_ok-deltas.deltas.items ≡ replicate n (pos 0) = c.in_ok-deltas.ensures.items_if_clones_equal (λ y e. e) in
    (λ j. known_where (marks j) (deltas j)) ∙ none_where n
