use Rattle.std.proofs.Common.{ap}
use Rattle.thrift_binary.specs.Reading.{lift}
use Rattle.batch_codec.specs.Decoding.{binary_at, wire}
use Rattle.value_pieces.proofs.texts.PartialBinary.new.Goals as goal

pub returns : goal.returns
unfolding binary_at
returns c = record { fresh = λ w. ap (λ r. lift wire r) (c.new.ensures.fresh w) }
