use Rattle.std.proofs.Common.{refl}
use Rattle.wire_pieces.proofs.StringSteps.{string-at-once}
use Rattle.wire_pieces.proofs.strings.StringPart.more.Goals as goal

pub returns-in-Some-prefix-clause-reads : goal.returns-in-Some-prefix-clause-reads
returns-in-Some-prefix-clause-reads c =
    rw c.in-Size.is (string-at-once _ _ _ _ _ _ _ _ refl (rw c.in-Some.is at c.in_ok-size-in-Size.ensures.reads)
    c.in-Some-prefix.ensures.parts c.in-Some-prefix.ensures.size c.in_ok-bytes-in-Size.ensures.items)
