use Rattle.std.proofs.Common.{Err, ap}
use Rattle.thrift_binary.specs.declared.fault.WireError.TheVariants.{Truncated}
use Rattle.wire_pieces.proofs.FilledBytes.{filled-waits, filled-comes, filled-refuses}
use Rattle.batch_codec.specs.declared.fault.DecodeError.TheVariants.{Wire}
use Rattle.value_pieces.proofs.values.PartialFixedPartial.more.Goals as goal

pub returns-in-None-clause-continues : goal.returns-in-None-clause-continues
returns-in-None-clause-continues g c =
    filled-waits g.V.Fixed.at (Wire Truncated) g.row.N g.met.V.Fixed.few _ _ _ _ c.in-None.ensures.parts c.in-None.ensures.size

pub returns-in-Ok-clause-continues : goal.returns-in-Ok-clause-continues
returns-in-Ok-clause-continues g c = filled-comes g.V.Fixed.at _ _ _ _ _ c.in-Some.ensures.parts.0 c.in-Ok.ensures.spells

pub returns-in-Err-clause-continues : goal.returns-in-Err-clause-continues
returns-in-Err-clause-continues g c =
    λ n. filled-refuses g.V.Fixed.at (Wire Truncated) _ _ _ _ _ c.in-Some.ensures.parts.0 (λ h. c.in-Err.ensures.no_want (ap Err h)) c.in-Err.ensures.spells
