use Rattle.std.proofs.Common.{arith, refl}
use Rattle.thrift_binary.specs.declared.fault.WireError.TheVariants.{Truncated}
use Rattle.batch_codec.specs.declared.fault.DecodeError.TheVariants.{Wire}
use Rattle.wire_pieces.proofs.Steps.{comes-trans, comes-waits}
use Rattle.wire_pieces.proofs.ListSteps.{items-waits}
use Rattle.value_pieces.proofs.CallSteps.{comes-faults}
use Rattle.struct_pieces.proofs.ItemSteps.{items-faults, behind-opens, behind-none, item-done}
use Rattle.struct_pieces.proofs.items.begin_items.Goals as goal

pub returns-in-Err-clause-continues : goal.returns-in-Err-clause-continues
returns-in-Err-clause-continues g c =
    comes-faults _ _ _ _ _ (behind-opens g.P.Item.reads _ _ _ _ _ _ c.loop-left-test.true refl c.loop-left.invariant.0)
    (items-faults g.P.Item.reads _ _ _ _ _ c.in-Err.ensures.continues)

pub returns-in-Ok-None-clause-continues : goal.returns-in-Ok-None-clause-continues
returns-in-Ok-None-clause-continues g c =
    let h = rw c.in-Ok-None.field-0-is at c.in-Ok-None.ensures.continues in (
      h.0,
      h.1,
      comes-waits (behind-opens g.P.Item.reads _ _ _ _ _ _ c.loop-left-test.true refl c.loop-left.invariant.0)
          (items-waits g.P.Item.reads (Wire Truncated) _ _ _ _ _ _ h.2),
    )

pub loop-left-preserved : goal.loop-left-preserved
loop-left-preserved g c = (
  comes-trans (behind-opens g.P.Item.reads _ _ _ _ _ _ c.loop-left-test.true refl c.loop-left.invariant.0)
      (item-done g.P.Item.reads _ _ _ _ _ _ _ c.in_ok-push-in-Ok-Some.ensures.items (rw c.in-Ok-Some.field-0-is at c.in-Ok-Some.ensures.continues)),
  omega (arith, c.loop-left.invariant.1, c.in-Ok-Some.ensures.no_longer),
)

pub returns-clause-continues : goal.returns-clause-continues
returns-clause-continues g c = behind-none g.P.Item.reads _ _ _ _ _ (omega (arith, c.loop-left-test.false)) c.loop-left.invariant.0
