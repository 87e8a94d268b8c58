use Rattle.std.proofs.Common.{sym}
use Rattle.batch_feeder.proofs.FeederSteps.{reading-ends, whole-ends, failed-answers}
use Rattle.batch_feeder.proofs.WaitingBytes.{holds-ends, whole-holds}
use Rattle.batch_feeder.proofs.feeder.Feeder.finish.Goals as goal

pub returns-in-Reading : goal.returns-in-Reading
returns-in-Reading c = record { gives = sym (holds-ends _ _ _ c.args.self.holds (reading-ends _ _ _ c.in-Reading.is c.args.self.settled)) }

pub returns-in-Whole : goal.returns-in-Whole
returns-in-Whole c = record { gives = sym (whole-holds _ _ _ _ c.args.self.holds c.in-Whole.is (whole-ends _ _ c.in-Whole.is)) }

pub returns : goal.returns
returns c = record { gives = sym (failed-answers _ _ _ c.in-Failed.is) }
