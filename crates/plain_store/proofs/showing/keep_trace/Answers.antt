use Rattle.std.proofs.Common.{rules}
use Rattle.std.proofs.lemmas.Fn.{filter_same}
use Rattle.jaeger_model.specs.Parents.{same_trace}
use Rattle.trace_model.specs.ShownSpans.{trace_of}
use Rattle.plain_store.proofs.showing.keep_trace.Goals as goal

pub returns : goal.returns
returns c = filter_same _ (λ q. same_trace c.args.id (trace_of q)) _ (λ x b f' k. search rules) _ _ c.retain.ensures.filtered
