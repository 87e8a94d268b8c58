use Rattle.std.proofs.Common.{◌≡◌, ◌++◌, ap, Ok, rules, w64}
use Rattle.std.specs.Int.{cast_signed, cast_unsigned}
use Rattle.byteorder.specs.Endian.{big_number}
use Rattle.thrift_binary.specs.Reading.{◌>>=◌, lift}
use Rattle.wire_pieces.proofs.FilledBytes.{signed-whole}
use Rattle.batch_codec.specs.Decoding.{id_at, i64_at, wire}
use Rattle.value_pieces.proofs.values.U64Fixed8.of.Goals as goal

pub returns-clause-spells : goal.returns-clause-spells
unfolding id_at i64_at
returns-clause-spells c = λ w.
    let whole : id_at (c.args.bytes.now ++ w) ≡ Ok (cast_unsigned w64 (cast_signed w64 (big_number 8 c.args.bytes.now)), w) =
    ap (λ r. lift wire r >>= λ x. Ok (cast_unsigned w64 x.0, x.1)) (signed-whole w64 8 c.args.bytes.now w c.told-bytes) in
    search (rules, whole)
