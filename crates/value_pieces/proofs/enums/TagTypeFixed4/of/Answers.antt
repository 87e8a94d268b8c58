use Rattle.std.proofs.Common.{◌≡◌, ◌++◌, ap, Ok, rules, w32}
use Rattle.std.specs.Int.{cast_signed}
use Rattle.byteorder.specs.Endian.{big_number}
use Rattle.thrift_binary.specs.declared.fault.WireError.TheVariants.{Truncated}
use Rattle.thrift_binary.specs.Reading.{◌>>=◌, lift}
use Rattle.wire_pieces.proofs.FilledBytes.{signed-whole}
use Rattle.batch_codec.specs.declared.fault.DecodeError.TheVariants.{Wire, BadEnum}
use Rattle.batch_codec.specs.Decoding.{i32_at, wire}
use Rattle.batch_codec.specs.TagReading.{type_at, type_of_number}
use Rattle.value_pieces.specs.ContinuedCalls.{ended}
use Rattle.value_pieces.proofs.enums.TagTypeFixed4.of.Goals as goal

pub returns-clause-spells : goal.returns-clause-spells
unfolding type_at i32_at
returns-clause-spells c = λ w.
    let whole : type_at (c.args.bytes.now ++ w) ≡ ended (type_of_number (cast_signed w32 (big_number 4 c.args.bytes.now))) w =
    ap (λ r. lift wire r >>= λ x. type_of_number x.0 >>= λ kind. Ok (kind, x.1)) (signed-whole w32 4 c.args.bytes.now w c.told-bytes) in
    search (rules, whole)

pub returns-clause-no_want : goal.returns-clause-no_want
returns-clause-no_want c = λ h. let k : Wire Truncated ≡ BadEnum = rw h at c.type_of_number.ensures.fault in absurd cc
