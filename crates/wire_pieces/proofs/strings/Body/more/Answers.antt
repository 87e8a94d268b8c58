use Rattle.wire_pieces.proofs.StringSteps.{body-waits, body-whole}
use Rattle.wire_pieces.proofs.strings.Body.more.Goals as goal

pub returns-then-self-gt0-clause-reads : goal.returns-then-self-gt0-clause-reads
returns-then-self-gt0-clause-reads c =
    body-waits _ _ _ _ _ _ c.in_ok-extend_from_slice.ensures.items c.at_most-prefix.ensures.parts c.at_most-prefix.ensures.size c.if-self-gt0.true

pub returns-clause-reads : goal.returns-clause-reads
returns-clause-reads c =
    rw c.replace.ensures.value (body-whole _ _ _ _ _ _ c.in_ok-extend_from_slice.ensures.items c.at_most-prefix.ensures.parts c.at_most-prefix.ensures.size
    c.if-self-gt0.false)
