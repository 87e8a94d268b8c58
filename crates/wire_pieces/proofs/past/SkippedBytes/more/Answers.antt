use Rattle.std.proofs.Common.{arith}
use Rattle.wire_pieces.proofs.StringSteps.{past-waits}
use Rattle.wire_pieces.proofs.past.SkippedBytes.more.Goals as goal

pub returns-clause-reads : goal.returns-clause-reads
returns-clause-reads c =
    past-waits _ _ _ _ c.at_most-prefix.ensures.parts c.at_most-prefix.ensures.size (omega (arith, c.at_most-prefix.ensures.size, c.if-prefix-self.false))
