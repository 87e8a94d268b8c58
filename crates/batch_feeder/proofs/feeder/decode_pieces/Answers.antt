use Rattle.batch_codec.specs.BatchReading.{decoded}
use Rattle.batch_feeder.specs.FeederAnswers.{answers}
use Rattle.batch_feeder.proofs.FedPieces.{pieces-end, pieces-fail}
use Rattle.batch_feeder.proofs.feeder.decode_pieces.Goals as goal

pub returns-in-Err : goal.returns-in-Err
returns-in-Err c =
    record {
      gives = pieces-fail
          (λ p. p.items) (answers c.loop-piece.feeder)
          decoded _ _ _ _ _ c.loop-piece-test.true c.piece-item.is c.as_slice.ensures.value c.loop-piece.invariant c.in-Err.ensures.feeds.faults;
    }

pub returns : goal.returns
returns c =
    record {
      gives = pieces-end (λ p. p.items) (answers c.loop-piece.feeder)
          decoded _ _ _ c.loop-piece-test.false c.loop-piece.invariant c.finish.ensures.gives;
    }
