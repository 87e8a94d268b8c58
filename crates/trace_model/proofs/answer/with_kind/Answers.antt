use Rattle.std.proofs.Common.{rules}
use Rattle.std.proofs.lemmas.Fn.{filter_same}
use Rattle.trace_model.specs.Names.{is_asked_kind}
use Rattle.trace_model.proofs.answer.with_kind.Goals as goal

pub returns : goal.returns
returns c = filter_same _ (is_asked_kind c.args.kind.now) _ (λ x b f' k. search rules) _ _ c.retain.ensures.filtered
