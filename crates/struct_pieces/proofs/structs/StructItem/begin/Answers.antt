use Rattle.std.proofs.Common.{◌∙◌, sym, ap}
use Rattle.thrift_binary.specs.declared.fault.WireError.TheVariants.{Truncated}
use Rattle.batch_codec.specs.declared.fault.DecodeError.TheVariants.{Wire}
use Rattle.batch_codec.proofs.CutStructs.{struct_safe}
use Rattle.struct_pieces.specs.Fields.{struct_at}
use Rattle.struct_pieces.proofs.ReadingInPlace.{whole-comes, fault-refuses, fails-is}
use Rattle.struct_pieces.proofs.structs.StructItem.begin.Goals as goal

pub returns-in-Ok-Some-clause-continues : goal.returns-in-Ok-Some-clause-continues
returns-in-Ok-Some-clause-continues g c =
    let reads = struct_at g.S.PieceSlots.takes g.S.PieceSlots.none g.S.PieceSlots.makes in
    let safe = struct_safe g.S.PieceSlots.takes g.S.PieceSlots.none g.S.PieceSlots.makes g.met.S.PieceSlots.safe in
    let got = rw c.in-Ok-Some.field-0-is at c.in-Ok-Some.ensures.attempts in
    let begun = c.new-cursor.ensures.bytes ∙ c.rest.ensures.bytes in
    whole-comes (Wire Truncated) reads safe c.args.piece.now _ c.in-Ok-Some.value (ap reads (sym begun) ∙ got)

pub returns-else-is_truncated-clause-continues : goal.returns-else-is_truncated-clause-continues
returns-else-is_truncated-clause-continues g c =
    let reads = struct_at g.S.PieceSlots.takes g.S.PieceSlots.none g.S.PieceSlots.makes in
    let safe = struct_safe g.S.PieceSlots.takes g.S.PieceSlots.none g.S.PieceSlots.makes g.met.S.PieceSlots.safe in
    let begun = c.new-cursor.ensures.bytes ∙ c.rest.ensures.bytes in
    λ n. fault-refuses (Wire Truncated) reads safe c.args.piece.now c.in-Err.error
    (ap reads (sym begun) ∙ fails-is c.in-Err.error _ n c.in-Err.ensures.attempts) (rw c.if-is_truncated.false at c.is_truncated.ensures)
