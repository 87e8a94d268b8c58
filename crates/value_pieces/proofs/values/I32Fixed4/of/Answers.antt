use Rattle.std.proofs.Common.{◌≡◌, ◌++◌, ap, Ok, rules, w32}
use Rattle.std.specs.Int.{cast_signed}
use Rattle.byteorder.specs.Endian.{big_number}
use Rattle.thrift_binary.specs.Reading.{lift}
use Rattle.wire_pieces.proofs.FilledBytes.{signed-whole}
use Rattle.batch_codec.specs.Decoding.{i32_at, wire}
use Rattle.value_pieces.proofs.values.I32Fixed4.of.Goals as goal

pub returns-clause-spells : goal.returns-clause-spells
unfolding i32_at
returns-clause-spells c = λ w.
    let whole : i32_at (c.args.bytes.now ++ w) ≡ Ok (cast_signed w32 (big_number 4 c.args.bytes.now), w) =
    ap (lift wire) (signed-whole w32 4 c.args.bytes.now w c.told-bytes) in
    search (rules, whole)
