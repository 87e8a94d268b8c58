use Rattle.std.proofs.Common.{◌<◌, ℕ, List, length, get_or, sym, ap, subst, arith}
use Rattle.trace_ring.specs.RingValues.{RingValue, NoneTwice}
use Rattle.trace_ring.proofs.RingPlaces.{window_once, first_seen}
use Rattle.trace_ring.proofs.ring.Ring.evict_oldest.Goals as goal

pub returns-clause-once : goal.returns-clause-once
returns-clause-once c =
    let t = c.self.inside in
    subst (λ (w : RingValue). NoneTwice w.ids) c.self.view_is (window_once t.room t.table t.rows.items t.first t.numbers.items c.self.invariant.2)

pub returns-in_err-row-clause-once : goal.returns-in_err-row-clause-once
returns-in_err-row-clause-once c =
    let t = c.self.inside in
    subst (λ (w : RingValue). NoneTwice w.ids) c.self.view_is (window_once t.room t.table t.rows.items t.first t.numbers.items c.self.invariant.2)

pub returns-clause-row : goal.returns-clause-row
returns-clause-row c =
    let t = c.self.inside in
    let h = c.self.invariant.2 in
    let items = c.in_ok-row.ensures.items in
    let some : 0 < length t.rows.items = omega (arith, ap length items) in
    first_seen t.room t.table t.rows.items t.first t.numbers.items c.id-trace.result c.in_ok-row.row h
    (subst (λ (r : ℕ). r < length t.table.ids) (ap (λ (rs : List ℕ). get_or rs 0 0) items) (h.below 0 some)) (sym c.id-trace.ensures)
