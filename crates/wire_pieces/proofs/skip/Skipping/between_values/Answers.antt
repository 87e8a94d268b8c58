use Rattle.std.proofs.Common.{◌≡◌, ◌<◌, suc, Ok, List, [], ◌∷◌, length, false, true, refl, arith}
use Rattle.wire_pieces.proofs.SkipSteps.{all-skipped, field-begins, element-next, elements-end, key-next, pairs-end, pair_value-next}
use Rattle.wire_pieces.proofs.SkipSteps.{comes-progress, progresses-state, comes-to-state}
use Rattle.wire_pieces.specs.declared.skip.SkipProgress.TheVariants as progress
use Rattle.wire_pieces.proofs.skip.Skipping.between_values.Goals as goal

nothing : {A : Type 0} (w : List A) → (0 < length w → ⊥) → w ≡ []
nothing [] h = refl
nothing (b ∷ w) h = absurd (h (omega arith))

pub returns-in-None-clause-progress : goal.returns-in-None-clause-progress
returns-in-None-clause-progress c =
    let none : c.args.self.now.around.items ≡ [] = nothing _ (λ h. let some : false ≡ true = c.in-None.ensures.variant.1 h in absurd cc) in
    λ piece. progresses-state _ _ _ _ c.requires.now none (λ w. Ok (tt, w)) piece piece (Ok progress.Complete) (all-skipped piece)

pub returns-in-Some-Fields-clause-progress : goal.returns-in-Some-Fields-clause-progress
returns-in-Some-Fields-clause-progress c =
    λ piece. progresses-state _ _ _ _ c.requires.now c.in-Some-Fields.ensures.items _ piece piece (Ok progress.Continue)
    (rw c.in-Some-Fields.field-0-is (field-begins _ c.new.result piece c.new.ensures.fresh))

pub returns-in-None-checked_sub-clause-progress : goal.returns-in-None-checked_sub-clause-progress
returns-in-None-checked_sub-clause-progress c =
    let none : c.in-Some-Elements.left ≡ 0 = omega (arith, c.in-None-checked_sub.ensures) in
    λ piece. progresses-state _ _ _ _ c.requires.now c.in-Some-Elements.ensures.items _ piece piece (Ok progress.Continue)
    (rw (c.in-Some-Elements.field-0-is, none) (comes-to-state _ _ _ _ c.requires.now refl _ piece piece (elements-end _ _ piece)))

pub returns-in-Some-clause-progress : goal.returns-in-Some-clause-progress
returns-in-Some-clause-progress c =
    let more : c.in-Some-Elements.left ≡ suc c.in-Some.left = omega (arith, c.in-Some.ensures) in
    λ piece. progresses-state _ _ _ _ c.requires.now c.in-Some-Elements.ensures.items _ piece piece _
    (rw (c.in-Some-Elements.field-0-is, more) (comes-progress _ _ _ _ _ _ _ (element-next _ _ _ piece) (c.begin.ensures.progress piece)))

pub returns-in-None-checked_sub-2-clause-progress : goal.returns-in-None-checked_sub-2-clause-progress
returns-in-None-checked_sub-2-clause-progress c =
    let none : c.in-Some-Pairs.left ≡ 0 = omega (arith, c.in-None-checked_sub-2.ensures) in
    λ piece. progresses-state _ _ _ _ c.requires.now c.in-Some-Pairs.ensures.items _ piece piece (Ok progress.Continue)
    (rw (c.in-Some-Pairs.field-0-is, none) (comes-to-state _ _ _ _ c.requires.now refl _ piece piece (pairs-end _ _ _ piece)))

pub returns-in-Some-checked_sub-clause-progress : goal.returns-in-Some-checked_sub-clause-progress
returns-in-Some-checked_sub-clause-progress c =
    let more : c.in-Some-Pairs.left ≡ suc c.in-Some-checked_sub.left = omega (arith, c.in-Some-checked_sub.ensures) in
    λ piece. progresses-state _ _ _ _ c.requires.now c.in-Some-Pairs.ensures.items _ piece piece _
    (rw (c.in-Some-Pairs.field-0-is, more) (comes-progress _ _ _ _ _ _ _ (key-next _ _ _ _ piece) (c.begin-in-Some-checked_sub.ensures.progress piece)))

pub returns-in-Some-PairValue-clause-progress : goal.returns-in-Some-PairValue-clause-progress
returns-in-Some-PairValue-clause-progress c =
    λ piece. progresses-state _ _ _ _ c.requires.now c.in-Some-PairValue.ensures.items _ piece piece _
    (rw c.in-Some-PairValue.field-0-is (comes-progress _ _ _ _ _ _ _ (pair_value-next _ _ _ _ piece) (c.begin-in-Some-PairValue.ensures.progress piece)))
