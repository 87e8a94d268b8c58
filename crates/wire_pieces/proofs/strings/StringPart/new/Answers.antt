use Rattle.std.proofs.Common.{◌∙◌, ap, []}
use Rattle.thrift_binary.specs.Reading.{◌>>=◌}
use Rattle.wire_pieces.specs.Strings.{bytes_end}
use Rattle.wire_pieces.proofs.StringSteps.{string-fresh}
use Rattle.wire_pieces.proofs.strings.StringPart.new.Goals as goal

pub returns : goal.returns
returns c = record { fresh = λ w. ap (λ r. r >>= λ n. bytes_end [] n.0 n.1) (c.new.ensures.fresh w) ∙ string-fresh w }
