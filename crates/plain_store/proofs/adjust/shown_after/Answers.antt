use Rattle.std.proofs.Common.{◌≡◌, ◌∙◌, sym, ap, subst, rules}
use Rattle.std.specs.Prelude.{IfOk, if◌then◌else◌}
use Rattle.std.specs.Int.{w128}
use mir.Val.{SFits}
use Rattle.std.proofs.lemmas.Int.{to_z-of_z}
use Rattle.trace_model.specs.Adjusting.{shifted, shifted_by, unadjusted}
use Rattle.plain_store.proofs.adjust.shown_after.Goals as goal

pub returns-in_ok-clone-in-Some : goal.returns-in_ok-clone-in-Some
returns-in_ok-clone-in-Some c =
    let m = c.args.max_skew in
    let p = c.args.placed.now in
    let clock = c.in-Some.clock in
    let copy = c.in_ok-clone-in-Some.field-0 in
    let f : SFits w128 clock.delta = search rules in
    let h : IfOk c.shifted.result (λ s. s ≡ shifted m clock.delta copy) = rw (to_z-of_z w128 clock.delta f) at c.shifted.ensures in
    let e = ap (shifted m clock.delta) c.in_ok-clone-in-Some.ensures.cases
    ∙ ap (shifted_by m p) (sym c.in-Some.is)
    ∙ ap (λ b. if b then unadjusted p else shifted_by m p c.args.clock) (sym (sym c.is_taken.ensures ∙ c.if-is_taken.false)) in
    subst (λ z. IfOk c.shifted.result (λ s. s ≡ z)) e h
