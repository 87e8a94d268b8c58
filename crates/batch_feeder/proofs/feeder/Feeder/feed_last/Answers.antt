use Rattle.std.proofs.Common.{arith}
use Rattle.batch_feeder.proofs.WaitingBytes.{gave-up, wanted-sound, byte-begun, feeds-last, feeds-plain}
use Rattle.batch_feeder.proofs.feeder.Feeder.feed_last.Goals as goal

pub returns-in-Err : goal.returns-in-Err
returns-in-Err c =
    record {
      feeds = rw c.fail.ensures.fails
          (gave-up _ _ _ (wanted-sound _ _ _ c.args.self.now.holds (omega (arith, c.if-self-eq0.false))) c.fail.ensures.stays);
    }

pub returns-then-more-gt0 : goal.returns-then-more-gt0
returns-then-more-gt0 c =
    record {
      feeds = byte-begun _ _ _ c.args.self.now.holds _ _ _ _ (c.still_wanted-more.ensures.begun c.if-more-gt0.true)
          c.if-more-gt0.true c.as_slice.ensures.value c.still_wanted-more.ensures.quiet c.in-Ok.ensures.items;
    }

pub returns-else-more-gt0 : goal.returns-else-more-gt0
returns-else-more-gt0 c =
    record {
      feeds = feeds-last _ _ _ _ _ _ _ (wanted-sound _ _ _ c.args.self.now.holds (omega (arith, c.if-self-eq0.false)))
          c.in-Ok.ensures.items c.advance_over_waiting.ensures.empty c.advance_over_waiting.ensures.feeds;
    }

pub returns-then-self-eq0 : goal.returns-then-self-eq0
returns-then-self-eq0 c = record { feeds = feeds-plain _ _ _ _ _ (c.args.self.now.holds.none c.if-self-eq0.true) c.advance_or_fail.ensures.feeds }
