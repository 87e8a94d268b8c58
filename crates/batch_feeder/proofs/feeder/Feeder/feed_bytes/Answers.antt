use Rattle.std.proofs.Common.{arith, sym, ◌∙◌}
use Rattle.std.proofs.lemmas.Result.{err_from_is_err_and}
use Rattle.batch_feeder.specs.FeederAnswers.{answers}
use Rattle.batch_feeder.proofs.FedPieces.{some-bytes, bytes-fail, bytes-more, bytes-end}
use Rattle.batch_feeder.proofs.feeder.Feeder.feed_bytes.Goals as goal

pub returns-in_err-feed_byte : goal.returns-in_err-feed_byte
returns-in_err-feed_byte c =
    let p = err_from_is_err_and c.from_residual.result c.from_residual.ensures.1 in
    record {
      feeds = rw (p.1, p.2)
          (bytes-fail (answers c.args.self.now) (answers c.loop-byte.self)
          _ _ c.loop-byte.invariant.0 _ _ _ c.loop-byte-test.true c.loop-byte.invariant.2 c.in_err-feed_byte.ensures.feeds);
    }

pub returns : goal.returns
returns c =
    record {
      feeds = bytes-end (answers c.args.self.now) (answers c.loop-byte.self) _ _ c.loop-byte.invariant.0 (omega (arith, c.loop-byte-test.false))
          (c.loop-byte.invariant.1 (omega (arith, c.loop-byte-test.false, some-bytes _ (sym c.is_empty.ensures ∙ c.if-is_empty.false))));
    }

pub loop-byte-preserved : goal.loop-byte-preserved
loop-byte-preserved c =
    bytes-more (answers c.args.self.now) (answers c.loop-byte.self) _ _ c.loop-byte.invariant.0 _ _ _ c.loop-byte-test.true (omega arith)
    c.loop-byte.invariant.2 c.in_ok-feed_byte.ensures.feeds
