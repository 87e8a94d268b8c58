use Rattle.std.proofs.Common.{◌≡◌, ◌∙◌}
use Rattle.batch_codec.proofs.Texts.{text_at-text, text_at-bad}
use Rattle.batch_codec.proofs.values.read_text.Goals as goal

pub returns-in_default-clause-exact : goal.returns-in_default-clause-exact
returns-in_default-clause-exact c = rw c.refuse.ensures.error (text_at-bad _ _ _ c.in_ok-bytes.ensures.exact c.in_default.ensures.cases.0)

pub returns-clause-exact : goal.returns-clause-exact
returns-clause-exact c =
    let same : c.new.result ≡ c.in_ok-bytes.bytes.now = c.new.ensures ∙ c.in-Ok.ensures.cases.0 in
    rw same (text_at-text _ _ _ c.in_ok-bytes.ensures.exact c.in-Ok.ensures.cases.1)
