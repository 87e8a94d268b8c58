use Rattle.std.proofs.Common.{◌≡◌, ◌<◌, ◌∙◌, ℕ, length, get_or, Some, sym, ap, subst, arith}
use Rattle.std.specs.Prelude.{position}
use Rattle.std.proofs.lemmas.List.{get_or_read}
use Rattle.jaeger_model.specs.Parents.{same_trace}
use Rattle.hash_tables.specs.IdRows.{id_at}
use Rattle.trace_ring.specs.RingValues.{RingValue}
use Rattle.trace_ring.specs.RingNumbers.{window}
use Rattle.trace_ring.proofs.RingPlaces.{length_window, window_at, first_seen}
use Rattle.trace_ring.proofs.ring.Ring.row_at.Goals as goal

pub returns-clause-first : goal.returns-clause-first
returns-clause-first c =
    let t = c.self.inside in
    let h = c.self.invariant.2 in
    let place = c.args.index in
    let within = subst (λ (w : RingValue). place < length w.ids) (sym c.self.view_is) c.requires in
    let l = length_window t.table.ids t.rows.items in
    let below : place < length t.rows.items = omega arith in
    let row : c.index.result.now ≡ get_or t.rows.items place 0 = get_or_read t.rows.items place c.index.result.now below c.index.ensures 0 in
    subst (λ (w : RingValue). position (same_trace (id_at w.ids place)) w.seen ≡ Some c.index.result.now) c.self.view_is
    (first_seen t.room t.table t.rows.items t.first t.numbers.items (id_at (window t.table.ids t.rows.items) place) c.index.result.now h
    (subst (λ (r : ℕ). r < length t.table.ids) (sym row) (h.below place below))
    (ap (id_at t.table.ids) row ∙ sym (window_at t.table.ids t.rows.items place below)))
