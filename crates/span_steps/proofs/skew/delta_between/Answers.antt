use Rattle.std.proofs.Common.{rules, ◌≡◌, ℤ, pos, ◌-ℤ◌, ◌+ℤ◌, ◌∙◌, sym, false, ◌&&◌}
use Rattle.std.specs.Prelude.{int_lt, int_le, int_div, if◌then◌else◌}
use Rattle.std.specs.Int.{w64, w128}
use mir.Val.{SFits}
use Rattle.std.proofs.lemmas.Int.{to_z-of_z}
use Rattle.trace_model.specs.Adjusting.{delta_between}
use Rattle.span_steps.proofs.skew.delta_between.Goals as goal

by_halves : (start long s d : ℤ) → int_lt long d ≡ false → (int_le start s && int_le (s +ℤ d) (start +ℤ long)) ≡ false
    → delta_between start long s d ≡ (start +ℤ int_div (long -ℤ d) (pos 2)) -ℤ s
by_halves start long s d e f =
    λ i. if e i then (if int_lt s start then start -ℤ s else pos 0) else if f i then pos 0 else (start +ℤ int_div (long -ℤ d) (pos 2)) -ℤ s

pub returns : goal.returns
returns c =
    let f : SFits w128 c.halfway.result = search rules in
    let m : SFits w128 c.difference-2.result = search rules in
    let s : SFits w64 c.args.start = search rules in
    let p : SFits w64 c.args.parent_start = search rules in
    let d : SFits w64 c.args.duration = search rules in
    let q : SFits w64 c.args.parent_duration = search rules in
    let e1 = simp (to_z-of_z w64 c.args.parent_start p, to_z-of_z w64 c.args.start s, to_z-of_z w128 c.difference-2.result m) at c.halfway.ensures.same in
    let e2 = simp (to_z-of_z w64 c.args.parent_duration q, to_z-of_z w64 c.args.duration d) at c.difference-2.ensures.same in
    let inside = simp (
      to_z-of_z w64 c.args.parent_start p,
      to_z-of_z w64 c.args.parent_duration q,
      to_z-of_z w64 c.args.duration d,
      to_z-of_z w64 c.args.start s,
    ) at c.is_inside.ensures in
    let h = by_halves c.args.parent_start c.args.parent_duration c.args.start c.args.duration (search rules) (sym inside ∙ c.if-is_inside.false) in
    rw (to_z-of_z w128 c.halfway.result f) (cc (e1, e2, h))
