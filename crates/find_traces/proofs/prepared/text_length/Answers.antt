use Rattle.std.proofs.Common.{◌∙◌, ap, sym}
use Rattle.jaeger_model.specs.declared.tag.Value.{Value}
use Rattle.jaeger_model.specs.declared.tag_value.ValueRef.{ValueRef}
use Rattle.jaeger_model.specs.StoredValues.{borrowed_value}
use Rattle.jaeger_model.specs.Tags.{tag_text}
use Rattle.find_traces.specs.RequestedPairs.{may_be_number}
use Rattle.find_traces.proofs.NumberTexts.{signed_begins}
use Rattle.find_traces.proofs.prepared.text_length.Goals as goal

pub returns-in-Long : goal.returns-in-Long
returns-in-Long c =
    ap (λ (v : Value). may_be_number (tag_text v)) (sym c.get.ensures)
    ∙ ap (λ (v : ValueRef). may_be_number (tag_text (borrowed_value v))) c.in-Long.is
    ∙ signed_begins c.in-Long.field-0
