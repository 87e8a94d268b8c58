use Rattle.std.proofs.Common.{ap}
use Rattle.thrift_binary.specs.Reading.{lift}
use Rattle.thrift_binary.proofs.SpellingsAreRead.{bytes_again}
use Rattle.batch_codec.specs.Decoding.{double_at, wire}
use Rattle.value_pieces.proofs.values.ArrayU88Fixed8.of.Goals as goal

pub returns-clause-spells : goal.returns-clause-spells
unfolding double_at
returns-clause-spells c = λ w. ap (lift wire) (bytes_again 8 c.args.bytes.now w c.told-bytes)
