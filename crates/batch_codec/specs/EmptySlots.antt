-- The state of a struct before its first field. An absent optional list is therefore empty, and a tag
-- without a value of its type has the empty text, eight zero bytes, false, 0 or no bytes.
use Rattle.std.specs.Prelude.{pos, [], ◌∷◌, None, false}
use Rattle.jaeger_model.specs.declared.tag.Value.{Value}
use Rattle.jaeger_model.specs.declared.tag.Value.TheVariants as values
use Rattle.batch_codec.specs.declared.tag.TagType.{TagType}
use Rattle.batch_codec.specs.declared.tag.TagType.TheVariants as types
use Rattle.batch_codec.specs.declared.tag.TagSlots.{TagSlots}
use Rattle.batch_codec.specs.declared.log.LogSlots.{LogSlots}
use Rattle.batch_codec.specs.declared.reference.ReferenceSlots.{ReferenceSlots}
use Rattle.batch_codec.specs.declared.process.ProcessSlots.{ProcessSlots}
use Rattle.batch_codec.specs.declared.span.SpanSlots.{SpanSlots}
use Rattle.batch_codec.specs.declared.batch.BatchSlots.{BatchSlots}

abbrev pub no_tag : TagSlots
no_tag = record { key = None; kind = None; text = []; double = 0 ∷ 0 ∷ 0 ∷ 0 ∷ 0 ∷ 0 ∷ 0 ∷ 0 ∷ []; boolean = false; long = pos 0; binary = [] }

-- the value that the type names
abbrev pub value_named : TagType → TagSlots → Value
value_named types.Text s = values.Text s.text
value_named types.Double s = values.Double s.double
value_named types.Bool s = values.Bool s.boolean
value_named types.Long s = values.Long s.long
value_named types.Binary s = values.Bytes s.binary

abbrev pub no_log : LogSlots
no_log = record { at = None; fields = None }

abbrev pub no_reference : ReferenceSlots
no_reference = record { kind = None; trace_low = None; trace_high = None; id = None }

abbrev pub no_process : ProcessSlots
no_process = record { service = None; tags = [] }

abbrev pub no_span : SpanSlots
no_span =
    record {
      trace_low = None;
      trace_high = None;
      id = None;
      parent = None;
      operation = None;
      references = [];
      flags = None;
      start = None;
      duration = None;
      tags = [];
      logs = [];
    }

abbrev pub no_batch : BatchSlots
no_batch = record { process = None; spans = None; seq_no = None }
