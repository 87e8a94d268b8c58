use Rattle.batch_feeder.specs.FeederAnswers.{answers}
use Rattle.batch_feeder.proofs.WaitingBytes.{feeds-then, feeds-plain}
use Rattle.batch_feeder.proofs.feeder.Feeder.feed_long.Goals as goal

pub returns-in-Ok : goal.returns-in-Ok
returns-in-Ok c =
    record {
      feeds = feeds-then (answers c.args.self.now) (answers c.read_waiting.new.self) _ _ _ c.in-Ok.ensures.keeps
          (feeds-plain _ _ _ _ _ c.in-Ok.ensures.empty c.advance_or_fail.ensures.feeds);
    }
