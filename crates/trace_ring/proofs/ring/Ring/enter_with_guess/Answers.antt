use Rattle.std.proofs.Common.{◌<◌, ◌∙◌, ℕ, arith, length, List, ◌∷◌, ◌++◌, [], sym, ap, subst, length-append}
use Rattle.std.proofs.lemmas.List.{get_or_push}
use Rattle.std.specs.Prelude.{if◌then◌else◌}
use Rattle.jaeger_model.specs.declared.ids.TraceId.{TraceId}
use Rattle.jaeger_model.specs.Parents.{same_trace}
use Rattle.hash_tables.specs.IdRows.{no_id, id_at}
use Rattle.trace_model.specs.Rings.{holds}
use Rattle.trace_model.proofs.Admissions.{none_passes}
use Rattle.trace_ring.specs.RingValues.{RingValue}
use Rattle.trace_ring.specs.RingNumbers.{window, IsRing}
use Rattle.trace_ring.proofs.RingPlaces.{row_is, first_seen, holds_some, window_more, ring_learned}
use Rattle.trace_ring.proofs.ring.Ring.enter_with_guess.Goals as goal

pub invariant_of-self-in-Added : goal.invariant_of-self-in-Added
invariant_of-self-in-Added c =
    let t = c.self.inside in
    let h = c.self.invariant.2 in
    let added = c.in-Added.ensures.entered in (
      c.self.invariant.0,
      omega (arith, c.self.invariant.1, c.push_reserved.ensures.capacity),
      subst (λ (xs : List ℕ). IsRing t.room c.enter_with_guess.new.self t.rows.items t.first xs) (sym c.push_reserved.ensures.items)
          (ring_learned t.room t.table c.enter_with_guess.new.self t.rows.items t.first t.numbers.items c.args.trace h added.2 c.in-Added.ensures.room added.0
          (subst (λ (w : RingValue). length w.seen < w.room) (sym c.self.view_is) c.requires)),
    )

pub returns-in-Known-clause-seen : goal.returns-in-Known-clause-seen
returns-in-Known-clause-seen c =
    let known = c.in-Known.ensures.entered in
    let held = ap (λ (w : RingValue). holds w.seen c.args.trace) (sym c.self.view_is)
    ∙ holds_some c.args.trace c.self.inside.table.ids c.in-Known.row known.0 in
    known.1 ∙ ap (λ (w : RingValue). w.seen) c.self.view_is
    ∙ sym (ap (λ b. if b then c.args.self.now.seen else (c.args.self.now.seen ++ c.args.trace ∷ [])) held)

pub returns-in-Known-clause-row : goal.returns-in-Known-clause-row
returns-in-Known-clause-row c =
    let known = c.in-Known.ensures.entered in
    ap (λ (ids : List TraceId). id_at ids c.in-Known.row) known.1 ∙ row_is c.args.trace c.self.inside.table.ids c.in-Known.row known.0

pub returns-in-Added-clause-ids : goal.returns-in-Added-clause-ids
returns-in-Added-clause-ids c =
    let t = c.self.inside in
    let added = c.in-Added.ensures.entered in
    ap (λ (xs : List TraceId). window xs t.rows.items) added.2 ∙ window_more t.room t.table t.rows.items t.first t.numbers.items c.args.trace c.self.invariant.2
    ∙ ap (λ (w : RingValue). w.ids) c.self.view_is

pub returns-in-Added-clause-seen : goal.returns-in-Added-clause-seen
returns-in-Added-clause-seen c =
    let added = c.in-Added.ensures.entered in
    let absent = ap (λ (w : RingValue). holds w.seen c.args.trace) (sym c.self.view_is)
    ∙ none_passes (same_trace c.args.trace) c.self.inside.table.ids added.0 in
    added.2 ∙ ap (λ (w : RingValue). w.seen ++ c.args.trace ∷ []) c.self.view_is
    ∙ sym (ap (λ b. if b then c.args.self.now.seen else (c.args.self.now.seen ++ c.args.trace ∷ [])) absent)

pub returns-in-Added-clause-first : goal.returns-in-Added-clause-first
returns-in-Added-clause-first c =
    let t = c.self.inside in
    let added = c.in-Added.ensures.entered in
    let new = c.enter_with_guess.new.self in
    first_seen t.room new t.rows.items t.first (t.numbers.items ++ 0 ∷ []) c.args.trace c.in-Added.row
    (ring_learned t.room t.table new t.rows.items t.first t.numbers.items c.args.trace c.self.invariant.2 added.2 c.in-Added.ensures.room added.0
    (subst (λ (w : RingValue). length w.seen < w.room) (sym c.self.view_is) c.requires))
    (omega (arith, added.1, ap length added.2, length-append t.table.ids (c.args.trace ∷ [])))
    (ap (λ (ids : List TraceId). id_at ids c.in-Added.row) added.2 ∙ get_or_push t.table.ids c.args.trace no_id c.in-Added.row (sym added.1))
