use Rattle.std.proofs.Common.{rules}
use Rattle.std.proofs.lemmas.Fn.{filter_same}
use Rattle.trace_model.specs.Rings.{holds}
use Rattle.trace_model.specs.ShownSpans.{trace_of}
use Rattle.plain_store.proofs.showing.Showing.keep_held.Goals as goal

pub returns-clause-spans : goal.returns-clause-spans
returns-clause-spans c = filter_same _ (λ q. holds c.args.self.now.ring.items (trace_of q)) _ (λ x b f' k. search rules) _ _ c.retain.ensures.filtered
