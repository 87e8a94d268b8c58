use Rattle.std.proofs.Common.{arith, refl, sym, ◌∙◌}
use Rattle.std.proofs.lemmas.Result.{err_from_is_err_and}
use Rattle.thrift_binary.specs.declared.fault.WireError.TheVariants.{Truncated}
use Rattle.batch_codec.specs.declared.fault.DecodeError.TheVariants.{Wire}
use Rattle.wire_pieces.proofs.Steps.{comes-trans, comes-waits}
use Rattle.wire_pieces.proofs.ListSteps.{items-waits}
use Rattle.value_pieces.proofs.CallSteps.{comes-faults}
use Rattle.struct_pieces.proofs.ItemSteps.{items-faults, behind-none, item-ended, ended-faults, ended-behind, item-next}
use Rattle.struct_pieces.proofs.items.next_items.Goals as goal

pub returns-in_err-item-clause-continues : goal.returns-in_err-item-clause-continues
returns-in_err-item-clause-continues g c =
    let p = err_from_is_err_and c.from_residual.result c.from_residual.ensures.1 in
    rw (p.1, p.2) (ended-faults g.P.Item.reads _ _ _ _ _ _ _ (sym c.in_err-item.ensures.value)
    (λ h. c.in_err-item.ensures.no_want (c.in_err-item.ensures.value ∙ h)) c.loop-item.invariant.0)

pub returns-then-left-eq0-clause-continues : goal.returns-then-left-eq0-clause-continues
returns-then-left-eq0-clause-continues g c =
    behind-none g.P.Item.reads _ _ _ _ _ c.if-left-eq0.true
    (ended-behind g.P.Item.reads _ _ _ _ _ _ _ _ (sym c.in_ok-item.ensures.value) c.in_ok-push.ensures.items c.loop-item.invariant.0)

pub returns-in-Err-clause-continues : goal.returns-in-Err-clause-continues
returns-in-Err-clause-continues g c =
    let behind = ended-behind g.P.Item.reads _ _ _ _ _ _ _ _ (sym c.in_ok-item.ensures.value) c.in_ok-push.ensures.items c.loop-item.invariant.0 in
    comes-faults _ _ _ _ _ (item-next g.P.Item.reads _ _ _ _ _ _ _ (omega (arith, c.if-left-eq0.false)) refl c.in_ok-item.ensures.fresh behind)
    (items-faults g.P.Item.reads _ _ _ _ _ c.in-Err.ensures.continues)

pub returns-in-Ok-Pending-clause-continues : goal.returns-in-Ok-Pending-clause-continues
returns-in-Ok-Pending-clause-continues g c =
    let behind = ended-behind g.P.Item.reads _ _ _ _ _ _ _ _ (sym c.in_ok-item.ensures.value) c.in_ok-push.ensures.items c.loop-item.invariant.0 in
    comes-waits (item-next g.P.Item.reads _ _ _ _ _ _ _ (omega (arith, c.if-left-eq0.false)) refl c.in_ok-item.ensures.fresh behind)
    (items-waits g.P.Item.reads (Wire Truncated) _ _ _ _ _ _ (rw c.in-Ok-Pending.field-0-is at c.in-Ok-Pending.ensures.continues))

pub loop-item-preserved : goal.loop-item-preserved
loop-item-preserved g c =
    let behind = ended-behind g.P.Item.reads _ _ _ _ _ _ _ _ (sym c.in_ok-item.ensures.value) c.in_ok-push.ensures.items c.loop-item.invariant.0 in (
      comes-trans (item-next g.P.Item.reads _ _ _ _ _ _ _ (omega (arith, c.if-left-eq0.false)) refl c.in_ok-item.ensures.fresh behind)
          (item-ended g.P.Item.reads _ _ _ _ _ _ (rw c.in-Ok-Complete.field-0-is at c.in-Ok-Complete.ensures.continues)),
      omega (arith, c.loop-item.invariant.1, c.in-Ok-Complete.ensures.no_longer),
    )
