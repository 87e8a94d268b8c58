-- The values of the samples.
use Rattle.std.specs.Prelude.{ℕ, pos, List, [], ◌∷◌, codes, None}
use Rattle.jaeger_model.specs.declared.ids.TraceId.{TraceId}
use Rattle.jaeger_model.specs.declared.ids.SpanId.{SpanId}
use Rattle.jaeger_model.specs.declared.tag.Tag.{Tag}
use Rattle.jaeger_model.specs.declared.tag.Value.TheVariants.{Text}
use Rattle.jaeger_model.specs.declared.span.Span.{Span}
use Rattle.jaeger_model.specs.declared.batch.Process.{Process}
use Rattle.trace_model.specs.declared.query.Find.{Find}

abbrev pub text_tag : List ℕ → List ℕ → Tag
text_tag key text = record { key = key; value = Text text }

abbrev pub plain_process : List ℕ → Process
plain_process service = record { service = service; tags = [] }

abbrev pub host_process : List ℕ → List ℕ → Process
host_process service host = record { service = service; tags = text_tag (codes "ip") host ∷ [] }

abbrev pub span_id : ℕ → SpanId
span_id id = record { 0 = id }

abbrev pub own_trace : ℕ → TraceId
own_trace low = record { high = 0; low = low }

-- a span without parent, as the first sample of batches has it
abbrev pub root_span : ℕ → ℕ → Span
root_span trace id =
    record {
      trace = own_trace trace;
      id = span_id id;
      parent = span_id 0;
      operation = codes "op";
      references = [];
      flags = pos 1;
      start = pos 1000;
      duration = pos 50;
      tags = [];
      logs = [];
    }

-- a search by a service, without any other condition and without a limit
abbrev pub service_find : List ℕ → Find
service_find service =
    record { service = service; operation = []; tags = []; start_min = None; start_max = None; duration_min = pos 0; duration_max = pos 0; limit = 0 }
