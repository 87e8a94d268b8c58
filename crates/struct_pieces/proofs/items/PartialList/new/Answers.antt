use Rattle.batch_codec.specs.Decoding.{wire}
use Rattle.wire_pieces.proofs.ListSteps.{list-fresh}
use Rattle.struct_pieces.proofs.items.PartialList.new.Goals as goal

pub returns : goal.returns
returns g c = record { fresh = λ w. list-fresh g.P.Item.reads wire 12 c.new-head.result c.new-head.ensures.fresh w }
