use Rattle.std.proofs.Common.{ap}
use Rattle.thrift_binary.specs.Reading.{lift, ◌>>=◌}
use Rattle.batch_codec.specs.Decoding.{text_at, wire}
use Rattle.value_pieces.specs.Values.{checked_text}
use Rattle.value_pieces.proofs.texts.PartialText.new.Goals as goal

pub returns : goal.returns
unfolding text_at
returns c = record { fresh = λ w. ap (λ r. lift wire r >>= checked_text) (c.new.ensures.fresh w) }
