use Rattle.std.proofs.Common.{rules, w16, ◌++◌, Ok}
use Rattle.std.specs.Int.{cast_signed}
use Rattle.byteorder.specs.Endian.{big_number}
use Rattle.thrift_binary.specs.Reading.{signed_at}
use Rattle.wire_pieces.specs.Pieces.{Comes, moment}
use Rattle.wire_pieces.proofs.FilledBytes.{filled-comes, signed-whole}
use Rattle.wire_pieces.proofs.heads.more_i16.Goals as goal

pub returns-clause-reads : goal.returns-clause-reads
returns-clause-reads c =
    let whole : Comes (moment (λ w. signed_at w16 2 (c.args.bytes.now ++ w)) c.args.piece.now)
    (moment (λ w. Ok (cast_signed w16 (big_number 2 c.in_ok-whole.whole), w)) c.more.new.piece) =
    filled-comes (signed_at w16 2) _ _ _ _ _ c.in_ok-whole.ensures.parts.0 (λ rest. signed-whole w16 2 _ rest c.in_ok-whole.ensures.size) in
    search (rules, whole)
