use Rattle.std.proofs.Common.{◌∙◌, ap, sym}
use Rattle.thrift_binary.specs.Reading.{◌>>=◌}
use Rattle.thrift_binary.specs.Skipping.{past}
use Rattle.wire_pieces.proofs.StringSteps.{text-is}
use Rattle.wire_pieces.proofs.skip.leaf.Goals as goal

pub returns-then-code-eq-STRING-clause-reads : goal.returns-then-code-eq-STRING-clause-reads
returns-then-code-eq-STRING-clause-reads c =
    λ levels w. rw c.if-code-eq-STRING.true (ap (λ r. r >>= λ n. past n.0 n.1) (c.new.ensures.fresh w) ∙ sym (text-is w))
