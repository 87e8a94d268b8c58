use Rattle.std.proofs.Common.{◌∙◌, ap, sym}
use Rattle.jaeger_model.specs.declared.tag.Value.{Value}
use Rattle.jaeger_model.specs.declared.tag_value.ValueRef.{ValueRef}
use Rattle.jaeger_model.specs.StoredValues.{borrowed_value}
use Rattle.jaeger_model.specs.Tags.{tag_text}
use Rattle.std.specs.Fmt.{signed_decimal}
use Rattle.arrival_journal.specs.TagBits.{text_part}
use Rattle.arrival_journal.proofs.NonStringTexts.{shared, signed_begins}
use Rattle.arrival_journal.proofs.tagging.value_part.Goals as goal

pub returns-in-Long-clause-exact : goal.returns-in-Long-clause-exact
returns-in-Long-clause-exact c =
    shared (signed_decimal c.in-Long.field-0) (signed_begins c.in-Long.field-0)
    ∙ ap (λ (v : ValueRef). text_part (tag_text (borrowed_value v))) (sym c.in-Long.is)
    ∙ ap (λ (v : Value). text_part (tag_text v)) c.get.ensures
