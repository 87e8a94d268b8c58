use Rattle.std.proofs.Common.{rules, w16, arith, ◌≡◌}
use Rattle.std.proofs.lemmas.Int.{to_z-of_z}
use mir.Val.{SFits}
use Rattle.wire_pieces.proofs.Steps.{comes-trans}
use Rattle.value_pieces.proofs.CallSteps.{comes-faults}
use Rattle.struct_pieces.proofs.ReadingInPlace.{reads-stop, reads-head, reads-value, reads-bad, reads-fault, field-code}
use Rattle.struct_pieces.proofs.fields.read_fields.Goals as goal

pub returns-in_default-clause-reads : goal.returns-in_default-clause-reads
returns-in_default-clause-reads g c =
    comes-trans c.loop-error.invariant.0
    (reads-stop g.S.PieceSlots.takes g.met.S.PieceSlots.safe c.loop-error.slots _ _ (rw c.in_default.is at c.in-Ok.ensures.exact))

pub loop-error-preserved : goal.loop-error-preserved
loop-error-preserved g c =
    let f : SFits w16 c.in-Some.id = search rules in (
      comes-trans (comes-trans c.loop-error.invariant.0
          (reads-head g.S.PieceSlots.takes g.met.S.PieceSlots.safe c.loop-error.slots c.in-Some.code c.in-Some.id _ _
          (rw c.in-Some.is at c.in-Ok.ensures.exact)))
          (reads-value g.S.PieceSlots.takes g.met.S.PieceSlots.safe _ _ _ _ _ _
          (simp to_z-of_z at (rw c.in-Ok-Read.field-0-is at c.in-Ok-Read.ensures.tries))),
      omega (arith, c.loop-error.invariant.1, c.in-Ok.ensures.shorter, c.in-Ok-Read.ensures.no_longer),
    )

pub returns-then-not-is_truncated-clause-reads : goal.returns-then-not-is_truncated-clause-reads
returns-then-not-is_truncated-clause-reads g c =
    comes-faults _ _ _ _ _ c.loop-error.invariant.0
    (reads-fault g.S.PieceSlots.takes g.met.S.PieceSlots.safe c.loop-error.slots _ _ c.in-Err.ensures.exact.0 c.if-not-is_truncated.ensures)

pub returns-in-Ok-Deferred-clause-reads : goal.returns-in-Ok-Deferred-clause-reads
returns-in-Ok-Deferred-clause-reads g c =
    let f : SFits w16 c.in-Some.id = search rules in
    let same : c.put.new.self ≡ c.loop-error.slots = rw c.in-Ok-Deferred.field-0-is at c.in-Ok-Deferred.ensures.tries in
    rw (same, c.new-in-Ok-Deferred.ensures.bytes, c.rest-value.ensures.bytes, to_z-of_z w16 c.in-Some.id f) (
      comes-trans c.loop-error.invariant.0
          (reads-head g.S.PieceSlots.takes g.met.S.PieceSlots.safe c.loop-error.slots c.in-Some.code c.in-Some.id _ _
          (rw c.in-Some.is at c.in-Ok.ensures.exact)),
      field-code _ _ _ _ (rw c.in-Some.is at c.in-Ok.ensures.exact),
      omega (arith, c.loop-error.invariant.1, c.in-Ok.ensures.shorter),
    )

pub returns-then-not-is_truncated-2-clause-reads : goal.returns-then-not-is_truncated-2-clause-reads
returns-then-not-is_truncated-2-clause-reads g c =
    let f : SFits w16 c.in-Some.id = search rules in
    comes-faults _ _ _ _ _ (comes-trans c.loop-error.invariant.0
    (reads-head g.S.PieceSlots.takes g.met.S.PieceSlots.safe c.loop-error.slots c.in-Some.code c.in-Some.id _ _ (rw c.in-Some.is at c.in-Ok.ensures.exact)))
    (reads-bad g.S.PieceSlots.takes g.met.S.PieceSlots.safe _ _ _ _ _ (simp to_z-of_z at c.in-Err-put.ensures.tries.0) c.if-not-is_truncated-2.ensures)

pub returns-in-Err-put-clause-reads : goal.returns-in-Err-put-clause-reads
returns-in-Err-put-clause-reads g c =
    let f : SFits w16 c.in-Some.id = search rules in
    rw (c.in-Err-put.ensures.tries.1, c.new-in-Err-put.ensures.bytes, c.rest-value.ensures.bytes, to_z-of_z w16 c.in-Some.id f) (
      comes-trans c.loop-error.invariant.0
          (reads-head g.S.PieceSlots.takes g.met.S.PieceSlots.safe c.loop-error.slots c.in-Some.code c.in-Some.id _ _
          (rw c.in-Some.is at c.in-Ok.ensures.exact)),
      field-code _ _ _ _ (rw c.in-Some.is at c.in-Ok.ensures.exact),
      omega (arith, c.loop-error.invariant.1, c.in-Ok.ensures.shorter),
    )
