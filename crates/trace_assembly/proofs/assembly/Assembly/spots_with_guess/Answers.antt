use Rattle.std.proofs.Common.{◌≡◌, ◌∙◌, sym, ap, arith, Some, None}
use Rattle.std.specs.Prelude.{position}
use Rattle.jaeger_model.specs.Parents.{same_trace}
use Rattle.trace_assembly.specs.AssembledRows.{Assembled, spots_in_row, spots_of}
use Rattle.trace_ring.proofs.RingPlaces.{row_within}
use Rattle.trace_assembly.proofs.assembly.Assembly.spots_with_guess.Goals as goal

pub spots-requires : goal.spots-requires
spots-requires c =
    let at : position (same_trace c.args.trace) c.self.inside.ring.seen ≡ Some c.in-Some.row = sym c.row_with_guess.ensures ∙ c.in-Some.is in
    omega (arith, row_within c.args.trace c.self.inside.ring.seen c.in-Some.row at, c.self.invariant.as_many)

pub returns-in-Some : goal.returns-in-Some
returns-in-Some c =
    let at : position (same_trace c.args.trace) c.self.inside.ring.seen ≡ Some c.in-Some.row = sym c.row_with_guess.ensures ∙ c.in-Some.is in
    c.spots.ensures ∙ ap (spots_in_row c.self.inside.chains.chains) (sym at) ∙ ap (λ (w : Assembled). spots_of w c.args.trace) c.self.view_is

pub returns-in-None : goal.returns-in-None
returns-in-None c =
    let none : position (same_trace c.args.trace) c.self.inside.ring.seen ≡ None = sym c.row_with_guess.ensures ∙ c.in-None.is in
    c.none.ensures ∙ ap (spots_in_row c.self.inside.chains.chains) (sym none) ∙ ap (λ (w : Assembled). spots_of w c.args.trace) c.self.view_is
