use Rattle.std.proofs.Common.{◌≡◌, ◌∙◌, Some, sym, ap}
use Rattle.std.specs.Prelude.{position}
use Rattle.jaeger_model.specs.declared.ids.TraceId.{TraceId}
use Rattle.jaeger_model.specs.Parents.{same_trace}
use Rattle.hash_tables.specs.IdRows.{id_at}
use Rattle.trace_ring.specs.RingValues.{RingValue}
use Rattle.trace_ring.proofs.RingPlaces.{row_is, none_unseen}
use Rattle.trace_ring.proofs.ring.Ring.position_with_guess.Goals as goal

pub returns-in-Some : goal.returns-in-Some
returns-in-Some c =
    let found : position (same_trace c.args.trace) c.self.inside.table.ids ≡ Some c.in-Some.row = sym c.find_with_guess.ensures ∙ c.in-Some.is in
    let seen : id_at c.args.self.now.seen c.in-Some.row ≡ c.args.trace =
    ap (λ (w : RingValue). id_at w.seen c.in-Some.row) (sym c.self.view_is) ∙ row_is c.args.trace c.self.inside.table.ids c.in-Some.row found in
    c.position_of_row.ensures.position ∙ ap (λ (x : TraceId). position (same_trace x) c.args.self.now.ids) seen

pub returns-in-None : goal.returns-in-None
returns-in-None c =
    let t = c.self.inside in
    none_unseen t.room t.table t.rows.items t.first t.numbers.items c.args.trace c.self.invariant.2 (sym c.find_with_guess.ensures ∙ c.in-None.is)
    ∙ ap (λ (w : RingValue). position (same_trace c.args.trace) w.ids) c.self.view_is
