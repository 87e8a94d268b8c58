use Rattle.std.proofs.Common.{◌≡◌, ◌++◌, ◌∙◌, List, ℕ, ap}
use Rattle.batch_codec.specs.CanonicalTexts.{canon}
use Rattle.batch_codec.proofs.CanonSpelled.{batch_spelled, canon_decodes}
use Rattle.batch_codec.proofs.writer.encode.Goals as goal

pub returns-in-Ok-clause-spells : goal.returns-in-Ok-clause-spells
returns-in-Ok-clause-spells c =
    let b = c.args.batch.now in
    let same : c.into_bytes.result.items ≡ canon b =
    c.into_bytes.ensures.bytes ∙ c.in-Ok.ensures.writes.1 ∙ ap (λ (o : List ℕ). o ++ canon b) c.new-out.ensures.empty in
    rw same (batch_spelled b c.in-Ok.ensures.proper)

pub returns-in-Ok-clause-decodes : goal.returns-in-Ok-clause-decodes
returns-in-Ok-clause-decodes c =
    let b = c.args.batch.now in
    let same : c.into_bytes.result.items ≡ canon b =
    c.into_bytes.ensures.bytes ∙ c.in-Ok.ensures.writes.1 ∙ ap (λ (o : List ℕ). o ++ canon b) c.new-out.ensures.empty in
    rw same (canon_decodes b c.in-Ok.ensures.proper)
