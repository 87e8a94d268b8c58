use Rattle.std.proofs.Common.{◌∙◌, set, sym, ap, rules, subst}
use Rattle.std.specs.Int.{w128}
use mir.Val.{SFits}
use Rattle.std.proofs.lemmas.Int.{to_z-of_z}
use Rattle.trace_adjust.specs.KnownDeltas.{known_where, AreParts}
use Rattle.trace_adjust.proofs.KnownParts.{where_set, set_parts}
use Rattle.trace_adjust.proofs.known_deltas.KnownDeltas.store.Goals as goal

pub invariant_of-self : goal.invariant_of-self
invariant_of-self c =
    let k = c.in-Some.known in
    let i = c.args.place in
    let marks = c.self.inside.marks.items in
    let deltas = c.self.inside.deltas.items in
    let fits : SFits w128 k.delta = search rules in
    rw (to_z-of_z w128 k.delta fits)
    (subst (λ m. AreParts (set marks i m) (set deltas i k.delta)) (sym c.mark_when.ensures) (set_parts marks deltas i k c.self.invariant))

pub returns-clause-after : goal.returns-clause-after
returns-clause-after c =
    let k = c.in-Some.known in
    let i = c.args.place in
    let marks = c.self.inside.marks.items in
    let deltas = c.self.inside.deltas.items in
    let fits : SFits w128 k.delta = search rules in
    rw (to_z-of_z w128 k.delta fits)
    (ap (λ m. known_where (set marks i m) (set deltas i k.delta)) c.mark_when.ensures
    ∙ where_set marks deltas i k
    ∙ (λ j. set (c.self.view_is j) i (sym c.in-Some.is j)))
